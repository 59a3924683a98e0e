-- `parts::Marks::awaited` meets its contract: `any` says it of the marks from place i on.
use mathlib.Core.Bool.{or_comm}
use native.Mathlib.Omega.{arith}
use Rattle.protocol.specs.Needs.{awaited}
use Rattle.parts.proofs.Backward.{from_none, from_back}
use Rattle.parts.proofs.Marks.awaited.Goals as goal

pub loop-i-init : goal.loop-i-init
unfolding awaited
loop-i-init c = rw from_none

pub loop-i-preserved : goal.loop-i-preserved
unfolding awaited
loop-i-preserved c = rw (or_comm c.loop-i.any, c.loop-i.invariant, from_back _ c.args.self.page.count c.loop-i.i (omega arith) (omega arith))
