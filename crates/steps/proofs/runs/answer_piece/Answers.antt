-- `steps::runs::answer_piece` meets its contract: the piece that the reader gives, and where its answer goes.
use Rattle.steps.proofs.Kept.{piece_answered_lem}
use Rattle.steps.proofs.runs.answer_piece.Goals as goal

pub returns : goal.returns
returns c =
    let a = c.args in
    piece_answered_lem a.i a.t.now a.es.now a.b.now _ _ _ _ c.event_of.ensures c.piece-a.ensures c.store_answer.ensures
