use Prim.Native.Nat.{ℕ}
use mathlib.Core.Path.{◌≡◌}
use mathlib.Core.List.{List}
use Rattle.protocol.specs.Needs.{all_read}
use Rattle.parts.specs.Pages.{mark_of, with_keys}
use Rattle.parts.proofs.Backward.{from_to}
use Rattle.parts.proofs.Marks.all_read.Given as goal

abbrev pub invariant-loop-i : goal.invariant-loop-i
invariant-loop-i l = (keys : List ℕ) → l.all ≡ all_read (from_to l.i l.count (mark_of (with_keys keys l.self)))
