-- `parts::Keys::distinct` meets its contract: `all` says it of the keys from place i on.
use mathlib.Core.Bool.{and_comm}
use mathlib.Core.Path.{◌≡◌}
use Prim.Native.Nat.{◌+◌, ◌-◌}
use native.Mathlib.Omega.{arith}
use Rattle.protocol.specs.Needs.{distinct}
use Rattle.parts.proofs.Backward.{from_none, from_back}
use Rattle.parts.proofs.Keys.distinct.Goals as goal

pub loop-i-init : goal.loop-i-init
unfolding distinct
loop-i-init c = rw from_none

pub loop-i-preserved : goal.loop-i-preserved
unfolding distinct
loop-i-preserved c =
    let e : c.loop-i.i - 1 + 1 ≡ c.loop-i.i = omega arith in
    rw (and_comm c.loop-i.all, c.holds.ensures, e, c.loop-i.invariant, from_back _ c.args.self.count c.loop-i.i (omega arith) (omega arith))
