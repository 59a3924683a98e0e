-- `event::bounds::keys_lawful` meets its contract: `all` says it of the first i keys.
use mathlib.Core.Path.{◌≡◌, sym}
use Prim.Native.Nat.{min}
use native.Mathlib.Omega.{arith}
use Rattle.codec.proofs.Below.{all_below_none, all_below-step}
use Rattle.event.specs.Ranges.{keys_below}
use Rattle.event.proofs.bounds.keys_lawful.Goals as goal

pub loop-i-init : goal.loop-i-init
loop-i-init c = sym (all_below_none _)

pub loop-i-preserved : goal.loop-i-preserved
loop-i-preserved c = rw c.loop-i.invariant (sym (all_below-step c.loop-i.i _))

pub returns : goal.returns
unfolding keys_below
returns c =
    let e : c.loop-i.i ≡ min 8 c.args.count = omega arith in
    rw e at c.loop-i.invariant
