use mathlib.Core.Path.{◌≡◌}
use Prim.Native.Nat.{◌+◌, ◌-◌}
use Rattle.codec.specs.Le.{load}
use Rattle.codec.proofs.load_le.Given as goal

abbrev pub invariant-loop-i : goal.invariant-loop-i
invariant-loop-i l = l.r ≡ load (l.n - l.i) l.t (l.at + l.i)
