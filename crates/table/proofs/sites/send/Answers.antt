-- `table::sites::send` meets its contract: the message is in the first d channels.
use mathlib.Core.Path.{sym, ◌∙◌}
use native.Mathlib.Omega.{arith}
use Rattle.record.specs.Meaning.{as_message}
use Rattle.table.proofs.Sent.{sent_none, sent-step, channel_sent}
use Rattle.table.proofs.sites.send.Goals as goal

pub loop-d-init : goal.loop-d-init
loop-d-init c = sym (sent_none _ _ _ _)

pub push-requires : goal.push-requires
push-requires c =
    let a = c.args in
    let same = channel_sent a.m a.p (as_message a.x) a.site.now c.requires.0 c.requires.2 c.loop-d.d c.loop-d.d (omega arith) (omega arith) in
    (omega arith, omega arith, omega arith, rw (c.loop-d.invariant, same) (c.requires.3 c.loop-d.d (omega arith)))

pub loop-d-preserved : goal.loop-d-preserved
loop-d-preserved c = c.push.ensures ∙ rw c.loop-d.invariant (sym (sent-step _ _ _ _ _))
