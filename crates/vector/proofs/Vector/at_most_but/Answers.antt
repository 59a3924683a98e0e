-- `vector::Vector::at_most_but` meets its contract: `all` says it of the first i entries.
use mathlib.Core.Path.{◌≡◌, sym}
use native.Mathlib.Omega.{arith}
use Rattle.codec.proofs.Below.{all_below_none, all_below-step}
use Rattle.vector.specs.Vec.{at_most_but}
use Rattle.vector.specs.Entries.{entry}
use Rattle.vector.proofs.Vector.at_most_but.Goals as goal

pub loop-i-init : goal.loop-i-init
loop-i-init c = sym (all_below_none _)

pub loop-i-preserved : goal.loop-i-preserved
unfolding entry
loop-i-preserved c = rw c.loop-i.invariant (sym (all_below-step c.loop-i.i _))

pub returns : goal.returns
unfolding at_most_but
returns c =
    let e : c.loop-i.i ≡ 4 = omega arith in
    rw e at c.loop-i.invariant
