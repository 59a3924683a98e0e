-- `parts::Keys::holds` meets its contract: `any` says it of the keys from place i on.
use mathlib.Core.Bool.{or_comm}
use mathlib.Core.Path.{◌≡◌}
use native.Mathlib.Omega.{arith}
use Rattle.parts.proofs.Backward.{from_none, from_back}
use Rattle.parts.proofs.Keys.holds.Goals as goal

pub loop-i-init : goal.loop-i-init
loop-i-init c = (omega arith, rw from_none)

pub loop-i-preserved : goal.loop-i-preserved
loop-i-preserved c = (omega arith, rw (or_comm c.loop-i.any, c.loop-i.invariant.1, from_back _ c.args.self.count c.loop-i.i (omega arith) (omega arith)))

pub returns : goal.returns
returns c =
    let e : c.loop-i.i ≡ c.args.from = omega arith in
    rw e at c.loop-i.invariant.1
