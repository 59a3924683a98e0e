-- `steps::runs::run` meets its contract: the table stays sound, so each piece is stepped as on a well-formed one.
use mathlib.Core.Path.{refl}
use Rattle.steps.specs.Run.{piece_call}
use Rattle.steps.proofs.Kept.{run_none, run_step, answered_sound}
use borrow.Author.Rules.{rules}
use Rattle.steps.proofs.runs.run.Goals as goal

pub loop-i-init : goal.loop-i-init
loop-i-init c =
    let a = c.args in
    (record { size = refl; whole = search rules; bytes = c.type_inv.t; formed = search rules }, run_none piece_call a.t.now a.es.now a.b.now)

pub loop-i-preserved : goal.loop-i-preserved
loop-i-preserved c =
    let k = c.answer_piece in
    let a = c.args in (
      answered_sound _ c.loop-i.t a.es.now c.loop-i.b c.loop-i.i _ _ k.ensures c.loop-i.invariant.0,
      run_step piece_call a.t.now a.es.now a.b.now c.loop-i.i c.loop-i.t c.loop-i.b _ _ c.loop-i.invariant.1 k.ensures,
    )
