-- `steps::runs::refuse_piece` meets its contract: the reason by the piece's length, and where the answer goes.
use mathlib.Core.Path.{◌≡◌}
use mathlib.Core.Bool.{cond}
use lib.Dec.{eqb}
use lib.ListN.{length}
use borrow.Author.Tests.{eq-eqb, ne_eqb}
use Rattle.protocol.specs.declared.reasons.Reason.{Reason}
use Rattle.steps.proofs.Kept.{away_by}
use Rattle.steps.proofs.runs.refuse_piece.Goals as goal
use Rattle.steps.proofs.runs.refuse_piece.Goals.{then-e-eq32, else-e-eq32}

pub returns : goal.returns
returns c =
    let a = c.args in
    let met : c.if-e-eq32.met ≡ cond (eqb (length c.event_of-e.result.now) 32) a.reason Reason.WrongLength =
    elim c.if-e-eq32.branch [
      | then-e-eq32 w ↦ rw (w.met-is, eq-eqb _ 32 w.if-e-eq32.true)
      | else-e-eq32 w ↦ rw (w.met-is, ne_eqb _ 32 w.if-e-eq32.false)
    ] in
    away_by a.reason _ a.i a.es.now a.b.now _ _ _ c.event_of-e.ensures met c.from.ensures c.store_answer.ensures
