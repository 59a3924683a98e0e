use mathlib.Core.Path.{◌≡◌}
use Prim.Native.Nat.{◌+◌, ◌-◌}
use Rattle.codec.specs.Le.{put}
use Rattle.codec.proofs.store_le.Given as goal

abbrev pub invariant-loop-i : goal.invariant-loop-i
invariant-loop-i l = put (l.n - l.i) l.t (l.at + l.i) l.y ≡ put l.n l.initial.t l.at l.x
