use mathlib.Core.Path.{◌≡◌}
use lib.ListN.{get_or}
use Rattle.protocol.specs.Needs.{distinct}
use Rattle.parts.proofs.Backward.{from_to}
use Rattle.parts.proofs.Keys.distinct.Given as goal

abbrev pub invariant-loop-i : goal.invariant-loop-i
invariant-loop-i l = l.all ≡ distinct (from_to l.i l.count (λ j. get_or l.self.keys j 0))
