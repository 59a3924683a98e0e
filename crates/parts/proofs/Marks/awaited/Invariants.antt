use mathlib.Core.Path.{◌≡◌}
use Rattle.protocol.specs.Needs.{awaited}
use Rattle.parts.specs.Pages.{mark_of}
use Rattle.parts.proofs.Backward.{from_to}
use Rattle.parts.proofs.Marks.awaited.Given as goal

abbrev pub invariant-loop-i : goal.invariant-loop-i
invariant-loop-i l = l.any ≡ awaited l.k (from_to l.i l.count (mark_of l.self))
