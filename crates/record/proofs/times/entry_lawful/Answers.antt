-- `record::times::entry_lawful` meets its contract, by the limit on either side of its test.
use mathlib.Core.Path.{◌≡◌, refl, sym, ◌∙◌}
use mathlib.Core.Bool.{Bool, true, false, cond}
use Prim.Native.Nat.{ℕ}
use native.Mathlib.Decide.{ℕ_discrete}
use native.Mathlib.Omega.{arith}
use borrow.Author.Tests.{le-ltb, ne_eqb}
use lib.Dec.{ltb, eqb}
use Rattle.protocol.specs.Record.{Setting}
use Rattle.protocol.specs.Times.{top_of}
use Rattle.record.specs.Ranges.{stamp_lawful}
use Rattle.record.proofs.times.entry_lawful.Goals as goal

below_one : (x : ℕ) → ltb x 1 ≡ eqb x 0
below_one x = elim (ℕ_discrete x 0) [ yes e ↦ rw e | no d ↦ le-ltb x 1 (omega arith) ∙ sym (ne_eqb x 0 d) ]

below_limit : (c : Setting) (there : Bool) (x : ℕ) → ltb x (cond there (top_of c) 1) ≡ cond there (stamp_lawful c x) (eqb x 0)
unfolding stamp_lawful
below_limit c true x = refl
below_limit c false x = below_one x

pub returns : goal.returns
returns c = rw c.entry_limit.ensures (below_limit _ _ _)
