-- `table::receive` meets its contract: the two sites' parts are apart, so the second change finds its channel as it was; the kept places follow.
use mathlib.Core.Path.{sym, ap, subst, ◌∙◌}
use native.Mathlib.Omega.{arith}
use lib.ListN.{length}
use Rattle.protocol.specs.Change.{Receive}
use Rattle.record.specs.Meaning.{as_message}
use Rattle.table.specs.Parts.{Long}
use Rattle.table.specs.Put.{put_core}
use Rattle.table.specs.Noted.{message_noted, Notable}
use Rattle.table.proofs.Beside.{site-received}
use Rattle.table.proofs.Decode.{length-put_core}
use Rattle.table.proofs.Follows.{receive-noted, receive_notable}
use Rattle.table.proofs.receive.Goals as goal

pub take_off-requires : goal.take_off-requires
take_off-requires c =
    let a = c.args in
    let fit = c.requires in
    let long : Long a.t.now = omega (arith, fit.whole) in
    let same = site-received a.i (as_message a.x) a.t.now a.node.site a.node.partition long fit.site fit.partition fit.other in
    (omega (arith, fit.whole), fit.source, fit.partition, omega arith, rw (c.take_in.ensures, same, c.place_of-d.ensures.0) fit.waits)

pub note_message-requires : goal.note_message-requires
unfolding put_core
note_message-requires c =
    let a = c.args in
    let taken = rw (c.take_in.ensures, c.place_of-d.ensures.0) at c.take_off.ensures in
    let fit = c.requires in
    let x = as_message a.x in
    let long : Long a.t.now = omega (arith, fit.whole) in
    let same = ap length taken ∙ length-put_core (Receive a.i a.node.site a.node.partition x) a.t.now long fit in (
      omega (arith, same, fit.whole),
      subst (Notable a.node.site a.node.partition x) (sym taken) (receive_notable a.i a.node.site a.node.partition x a.t.now fit),
    )

pub returns : goal.returns
unfolding put_core
returns c =
    let a = c.args in
    let taken = rw (c.take_in.ensures, c.place_of-d.ensures.0) at c.take_off.ensures in
    let x = as_message a.x in
    c.note_message.ensures ∙ ap (message_noted a.node.site a.node.partition x) taken ∙ receive-noted a.i a.node.site a.node.partition x a.t.now c.requires
