-- `decision::writes::deliver` meets its contract, by the tests in their order.
use Prim.Native.Nat.{◌<◌}
use native.Mathlib.Omega.{arith}
use mathlib.Core.Path.{◌≡◌, sym, ap, ◌∙◌}
use mathlib.Core.Bool.{cond, not, ◌&&◌}
use mathlib.Core.List.{[], ◌∷◌}
use Rattle.protocol.specs.Event.{DELIVER}
use Rattle.protocol.specs.Change.{Receive}
use Rattle.protocol.specs.Serve.{◌and◌}
use Rattle.protocol.specs.declared.Answer.TheVariants.{Done}
use Rattle.protocol.proofs.Ladders.{refuse}
use Rattle.record.specs.Meaning.{as_message}
use Rattle.parts.specs.Channel.{wait_in}
use Rattle.table.specs.Parts.{place_of, site_of, channel_of}
use Rattle.table.specs.Decode.{decode}
use Rattle.lawful.proofs.Facts.{formed}
use Rattle.decision.specs.Answered.{answered}
use Rattle.decision.proofs.Deliver.{first_in, deliver_none, deliver_first}
use Rattle.decision.proofs.writes.deliver.Goals as goal

pub place_of-d-requires : goal.place_of-d-requires
place_of-d-requires c = let F = (formed c.args.table.bytes.now c.args.table.formed) in (omega arith, omega arith, c.requires.2)

pub invariant_of-sender : goal.invariant_of-sender
invariant_of-sender c =
    let F = formed c.args.table.bytes.now c.args.table.formed in
    record { four_sites = omega (arith, F.sites); four_partitions = c.args.node.four_partitions }

pub channel-c-requires : goal.channel-c-requires
channel-c-requires c = (c.args.table.long, c.place_of-d.ensures.1)

pub returns-then-waiting-eq0 : goal.returns-then-waiting-eq0
returns-then-waiting-eq0 c =
    let a = c.args in
    let F = (formed c.args.table.bytes.now c.args.table.formed) in
    sym (deliver_none a.table.bytes.now a.i a.node.site a.node.partition (omega arith) c.requires.2 (sym (c.waiting.ensures ∙ ap wait_in (c.channel-c.ensures.0 ∙ ap (channel_of (site_of c.args.table.bytes.now c.args.i) c.args.node.partition) c.place_of-d.ensures.0)) ∙ c.if-waiting-eq0.true))

pub returns-then-is_update-has_slot : goal.returns-then-is_update-has_slot
returns-then-is_update-has_slot c =
    let first_answered : answered (decode c.args.table.bytes.now) (DELIVER c.args.i c.args.node.site c.args.node.partition) ≡ cond (c.is_update.result && not c.has_slot.result) (refuse 22) (Done and Receive c.args.i c.args.node.site c.args.node.partition (as_message c.first-x.result) ∷ []) =
    let F = (formed c.args.table.bytes.now c.args.table.formed) in
    let some : 0 < wait_in (channel_of (site_of c.args.table.bytes.now c.args.i) c.args.node.partition (place_of c.args.i c.args.node.site)) = omega (arith, (c.waiting.ensures ∙ ap wait_in (c.channel-c.ensures.0 ∙ ap (channel_of (site_of c.args.table.bytes.now c.args.i) c.args.node.partition) c.place_of-d.ensures.0)), c.if-waiting-eq0.false) in
    deliver_first c.args.table.bytes.now c.args.i c.args.node.site c.args.node.partition (omega arith) c.requires.2 some ∙ rw (c.has_slot.ensures, c.is_update.ensures, (c.first-x.ensures ∙ ap first_in (c.channel-c.ensures.0 ∙ ap (channel_of (site_of c.args.table.bytes.now c.args.i) c.args.node.partition) c.place_of-d.ensures.0))) in
    sym (first_answered ∙ rw c.if-is_update-has_slot.true)

pub returns : goal.returns
returns c =
    let first_answered : answered (decode c.args.table.bytes.now) (DELIVER c.args.i c.args.node.site c.args.node.partition) ≡ cond (c.is_update.result && not c.has_slot.result) (refuse 22) (Done and Receive c.args.i c.args.node.site c.args.node.partition (as_message c.first-x.result) ∷ []) =
    let F = (formed c.args.table.bytes.now c.args.table.formed) in
    let some : 0 < wait_in (channel_of (site_of c.args.table.bytes.now c.args.i) c.args.node.partition (place_of c.args.i c.args.node.site)) = omega (arith, (c.waiting.ensures ∙ ap wait_in (c.channel-c.ensures.0 ∙ ap (channel_of (site_of c.args.table.bytes.now c.args.i) c.args.node.partition) c.place_of-d.ensures.0)), c.if-waiting-eq0.false) in
    deliver_first c.args.table.bytes.now c.args.i c.args.node.site c.args.node.partition (omega arith) c.requires.2 some ∙ rw (c.has_slot.ensures, c.is_update.ensures, (c.first-x.ensures ∙ ap first_in (c.channel-c.ensures.0 ∙ ap (channel_of (site_of c.args.table.bytes.now c.args.i) c.args.node.partition) c.place_of-d.ensures.0))) in
    c.taken.ensures ∙ sym (first_answered ∙ rw c.if-is_update-has_slot.false)
