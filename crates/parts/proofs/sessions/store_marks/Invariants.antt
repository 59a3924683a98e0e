use mathlib.Core.Path.{◌≡◌}
use Rattle.parts.specs.Session.{put_marks}
use Rattle.parts.specs.Pages.{mark_of, marks_on}
use Rattle.parts.proofs.Backward.{from_to}
use Rattle.parts.proofs.sessions.store_marks.Given as goal

abbrev pub invariant-loop-i : goal.invariant-loop-i
invariant-loop-i l = put_marks l.b l.i (from_to l.i l.count (mark_of l.x)) ≡ put_marks l.initial.b 0 (marks_on l.x)
