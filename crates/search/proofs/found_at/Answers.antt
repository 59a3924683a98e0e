-- `search::found_at` meets its contract: nothing at place 0, and the record in its slot at another.
use mathlib.Core.Path.{sym, ap, subst, ◌∙◌}
use mathlib.Core.Option.{some}
use Prim.Native.Nat.{◌<◌}
use native.Mathlib.Omega.{arith}
use Rattle.protocol.proofs.Places.{placed_none, placed_some}
use Rattle.search.proofs.found_at.Goals as goal

pub returns-then-place-eq0 : goal.returns-then-place-eq0
returns-then-place-eq0 c = (sym (placed_none _ _ c.if-place-eq0.true), omega arith)

pub returns : goal.returns
returns c = (
  ap some c.load_record.ensures ∙ sym (placed_some _ _ c.if-place-eq0.false),
  subst (λ m. m < 4) (sym (ap (λ r. r.id.source) c.load_record.ensures)) (c.requires.2 (omega (arith, c.if-place-eq0.false))),
)
