-- `steps::runs::refuse_all` meets its contract: each piece as its turn, whatever the table is.
use Rattle.steps.specs.Run.{piece_refused}
use Rattle.steps.proofs.Kept.{run_none, run_step}
use Rattle.steps.proofs.runs.refuse_all.Goals as goal

pub loop-i-init : goal.loop-i-init
loop-i-init c t = run_none (piece_refused c.args.reason) t c.args.es.now c.args.b.now

pub loop-i-preserved : goal.loop-i-preserved
loop-i-preserved c t =
    run_step (piece_refused c.args.reason) t c.args.es.now c.args.b.now c.loop-i.i t c.loop-i.b t _ (c.loop-i.invariant t) (c.refuse_piece.ensures t)
