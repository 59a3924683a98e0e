use mathlib.Core.Path.{◌≡◌}
use Prim.Native.Nat.{◌≤◌}
use lib.ListN.{get_or}
use Rattle.codec.specs.Lists.{has}
use Rattle.parts.proofs.Backward.{from_to}
use Rattle.parts.proofs.Keys.holds.Given as goal

abbrev pub invariant-loop-i : goal.invariant-loop-i
invariant-loop-i l = (l.from ≤ l.i) × (l.any ≡ has (from_to l.i l.count (λ j. get_or l.self.keys j 0)) l.k)
