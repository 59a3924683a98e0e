-- Which node a change is done to: what the test `at` says of two nodes, and what a choice by it is at the node itself.
use Prim.Native.Nat.{ℕ}
use mathlib.Core.Path.{◌≡◌, refl}
use mathlib.Core.Bool.{cond}
use lib.Dec.{T, eqb}
use mir.Facts.{and_yes, yes_and, eqb_yes}
use Rattle.codec.proofs.Tests.{cond_yes, yes_eqb}
use Rattle.protocol.specs.Change.{at}

module _ (m p j q : ℕ) where
  pub at_yes : T (at m p j q) → (j ≡ m) × (q ≡ p)
  unfolding at
  at_yes t = let both = and_yes (eqb j m) (eqb q p) t in (eqb_yes both.0, eqb_yes both.1)

  pub yes_at : j ≡ m → q ≡ p → T (at m p j q)
  unfolding at
  yes_at e f = yes_and (eqb j m) (eqb q p) (yes_eqb j m e) (yes_eqb q p f)

-- what holds of (m, p) holds of (j, q)
pub at_elim {ℓ} : (P : ℕ → ℕ → Type ℓ) (m p j q : ℕ) → P m p → T (at m p j q) → P j q
at_elim P m p j q h b = let same = at_yes m p j q b in rw (same.0, same.1) h

pub at_own {ℓ} : {A : Type ℓ} (m p : ℕ) (x y : A) → cond (at m p m p) x y ≡ x
at_own m p x y = cond_yes (at m p m p) x y (yes_at m p m p refl refl)
