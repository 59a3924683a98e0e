use mathlib.Core.Path.{◌≡◌}
use lib.ListN.{length}
use Rattle.lawful.proofs.Steps.{Sound}
use Rattle.steps.specs.Run.{ran, run_by, piece_call}
use Rattle.steps.proofs.runs.run.Given as goal

abbrev pub invariant-loop-i : goal.invariant-loop-i
invariant-loop-i l = Sound (length l.initial.t) l.t × (ran l.t l.b ≡ run_by piece_call l.i l.initial.t l.es l.initial.b)
