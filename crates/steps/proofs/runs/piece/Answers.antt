-- `steps::runs::piece` meets its contract, by the piece's length.
use mathlib.Core.Path.{sym, ap, ◌∙◌}
use Rattle.steps.specs.Step.{gives}
use Rattle.steps.proofs.Kept.{piece_whole, piece_short}
use Rattle.steps.proofs.runs.piece.Goals as goal

pub returns-then-e-eq32 : goal.returns-then-e-eq32
returns-then-e-eq32 c =
    let a = c.args in
    c.step.ensures ∙ sym (piece_whole a.t.now a.e.now c.if-e-eq32.true)

pub returns-else-e-eq32 : goal.returns-else-e-eq32
returns-else-e-eq32 c =
    let a = c.args in
    ap (λ r. gives r a.t.now) c.from.ensures ∙ sym (piece_short a.t.now a.e.now c.if-e-eq32.false)
