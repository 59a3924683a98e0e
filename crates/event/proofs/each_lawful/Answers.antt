-- `event::each_lawful` meets its contract: `all` says it of the first f fields.
use mathlib.Core.Path.{sym}
use Rattle.codec.proofs.Below.{all_below_none, all_below-step}
use Rattle.event.specs.Ranges.{field_lawful}
use Rattle.event.proofs.each_lawful.Goals as goal

pub loop-f-init : goal.loop-f-init
loop-f-init c = sym (all_below_none _)

pub loop-f-preserved : goal.loop-f-preserved
unfolding field_lawful
loop-f-preserved c = rw c.loop-f.invariant (sym (all_below-step c.loop-f.f _))
