-- `record::formed::heartbeat_formed` meets its contract: behind a key of 0 the comparisons with it are those with 0.
use mathlib.Core.Path.{◌≡◌, refl, sym, ◌∙◌}
use mathlib.Core.Bool.{Bool}
use mathlib.Core.List.{[], ◌∷◌}
use Rattle.codec.specs.Tests.{every, joined}
use Rattle.codec.specs.Le.{load}
use Rattle.codec.specs.Below.{all_below}
use Rattle.codec.proofs.Below.{all_below_ext}
use Rattle.codec.proofs.Tests.{every_fails, every-joined}
use Rattle.vector.specs.Vec.{width}
use Rattle.vector.specs.Entries.{load_vec}
use Rattle.record.specs.RecordFormed.{heartbeat_formed}
use Prim.Native.Nat.{ℕ, zero, suc, ◌+◌}
use native.Mathlib.Decide.{ℕ_discrete}
use native.Mathlib.Omega.{arith}
use borrow.Author.Tests.{lt-leb, ne_eqb}
use lib.Dec.{leb, eqb}
use Rattle.record.proofs.formed.heartbeat_formed.Goals as goal

leb_zero : (n : ℕ) → leb n 0 ≡ eqb n 0
leb_zero zero = refl
leb_zero (suc n) = lt-leb (suc n) 0 (omega arith) ∙ sym (ne_eqb (suc n) 0 (omega arith))

-- behind a key of 0, at most the key is 0
with_key : (key level : ℕ) (v : ℕ → ℕ) (s q : Bool) → joined (eqb key 0 ∷ s ∷ q ∷ leb level key ∷ all_below width (λ e. leb (v e) key) ∷ []) ≡ every (eqb key 0 ∷ s ∷ q ∷ eqb level 0 ∷ all_below width (λ e. eqb (v e) 0) ∷ [])
with_key key level v s q = elim (ℕ_discrete key 0) [
  | yes z ↦
      rw (z, leb_zero level, all_below_ext width (λ e. leb (v e) 0) (λ e. eqb (v e) 0) (λ e b. leb_zero (v e)))
      (sym (every-joined (eqb 0 0 ∷ s ∷ q ∷ eqb level 0 ∷ all_below width (λ e. eqb (v e) 0) ∷ [])))
  | no d ↦ rw (ne_eqb key 0 d) (sym (every_fails _ 0 refl))
]

pub returns : goal.returns
unfolding heartbeat_formed
returns c =
    let a = c.args in
    let b = a.b.now in
    rw
    (c.none_above.ensures, c.load-level.ensures, c.load-quality.ensures, c.load-source.ensures, c.load-key.ensures)
    (with_key (load 1 b a.at) (load 4 b (a.at + 4)) (load_vec b (a.at + 16)) (eqb (load 1 b (a.at + 1)) a.i) (eqb (load 1 b (a.at + 2)) 0))
