-- `decision::writes::put` meets its contract, by the tests in their order.
use mathlib.Core.Path.{◌≡◌, refl, sym, ◌∙◌}
use mathlib.Core.Bool.{cond}
use lib.Dec.{ltb}
use mir.ValLaws.{to_z-of_z}
use mir.Syntax.{w32}
use borrow.Author.Rules.{rules}
use borrow.Author.Tests.{lt-ltb, le-ltb}
use Rattle.protocol.specs.Record.{partition_of}
use Rattle.protocol.specs.Event.{PUT}
use Rattle.protocol.proofs.Ladders.{wait, stamped_by}
use Rattle.parts.specs.Meaning.{as_session}
use Rattle.parts.specs.Session.{session_in}
use Rattle.table.specs.Parts.{session_of}
use Rattle.table.specs.Decode.{setting_in, decode}
use Rattle.lawful.proofs.Facts.{formed}
use Rattle.decision.specs.Answered.{answered}
use Rattle.decision.proofs.Exits.{turned}
use Rattle.decision.proofs.Room.{roomy}
use Rattle.decision.proofs.Ladders.{seen_by}
use Rattle.decision.proofs.Put.{put-closed, put_paged, put_there}
use Rattle.decision.proofs.writes.put.Goals as goal

pub returns-in_err-x : goal.returns-in_err-x
returns-in_err-x c =
    let a = c.args in
    let met = c.in_err-x.ensures.err in
    turned _ _ c.from_residual.ensures.1 _ met.0 ∙ sym (put-closed a.table.bytes.now a.s.number a.key a.quality a.level (session_in (session_of a.table.bytes.now a.s.number)) refl (partition_of (setting_in a.table.bytes.now) a.key) refl met.1)

pub returns-then-x : goal.returns-then-x
returns-then-x c =
    let x = c.in_ok-x.ensures.ok in
    let a = c.args in
    sym (put_paged a.table.bytes.now a.s.number a.key a.quality a.level (as_session c.in_ok-x.x) x.says (partition_of (setting_in a.table.bytes.now) a.key) refl x.is_open c.if-x.true)

pub returns-then-not-has_slot : goal.returns-then-not-has_slot
returns-then-not-has_slot c =
    let full = rw c.node_of-node.ensures.0 at (sym c.has_slot.ensures ∙ c.if-not-has_slot.true) in
    sym ((put_there c.args.table.bytes.now c.args.s.number c.args.key c.args.quality c.args.level (as_session c.in_ok-x.x) c.in_ok-x.ensures.ok.says c.node_of-node.result.partition c.node_of-node.ensures.1 c.in_ok-x.ensures.ok.is_open c.if-x.false c.in_ok-x.ensures.ok.there (formed c.args.table.bytes.now c.args.table.formed).sites) ∙ rw full)

pub returns-then-not-has_room : goal.returns-then-not-has_room
unfolding roomy
returns-then-not-has_room c =
    let slot = rw c.node_of-node.ensures.0 at (sym c.has_slot.ensures ∙ c.if-not-has_slot.false) in
    let full = rw c.node_of-node.ensures.0 at (sym c.has_room.ensures ∙ c.if-not-has_room.true) in
    sym ((put_there c.args.table.bytes.now c.args.s.number c.args.key c.args.quality c.args.level (as_session c.in_ok-x.x) c.in_ok-x.ensures.ok.says c.node_of-node.result.partition c.node_of-node.ensures.1 c.in_ok-x.ensures.ok.is_open c.if-x.false c.in_ok-x.ensures.ok.there (formed c.args.table.bytes.now c.args.table.formed).sites) ∙ rw (slot, full))

pub returns-then-stamp-pass : goal.returns-then-stamp-pass
unfolding roomy
returns-then-stamp-pass c =
    let by_clock : answered (decode c.args.table.bytes.now) (PUT c.args.s.number c.args.key c.args.quality c.args.level) ≡ cond (ltb c.to_pass-pass.result c.clock-stamp.result) (stamped_by (seen_by c.args.table.bytes.now (as_session c.in_ok-x.x)) c.args.s.number c.args.key c.args.quality c.args.level c.node_of-node.result.partition c.clock-stamp.result) (wait c.in_ok-x.x.site c.to_pass-pass.result) =
    let slot = rw c.node_of-node.ensures.0 at (sym c.has_slot.ensures ∙ c.if-not-has_slot.false) in
    let room = rw c.node_of-node.ensures.0 at (sym c.has_room.ensures ∙ c.if-not-has_room.false) in
    (put_there c.args.table.bytes.now c.args.s.number c.args.key c.args.quality c.args.level (as_session c.in_ok-x.x) c.in_ok-x.ensures.ok.says c.node_of-node.result.partition c.node_of-node.ensures.1 c.in_ok-x.ensures.ok.is_open c.if-x.false c.in_ok-x.ensures.ok.there (formed c.args.table.bytes.now c.args.table.formed).sites) ∙ rw (slot, room, c.clock-stamp.ensures, c.node.ensures.0, c.to_pass-pass.ensures, c.node_of-node.ensures.0) in
    sym (by_clock ∙ rw (le-ltb c.to_pass-pass.result c.clock-stamp.result c.if-stamp-pass.true))

pub returns : goal.returns
unfolding roomy
returns c =
    let by_clock : answered (decode c.args.table.bytes.now) (PUT c.args.s.number c.args.key c.args.quality c.args.level) ≡ cond (ltb c.to_pass-pass.result c.clock-stamp.result) (stamped_by (seen_by c.args.table.bytes.now (as_session c.in_ok-x.x)) c.args.s.number c.args.key c.args.quality c.args.level c.node_of-node.result.partition c.clock-stamp.result) (wait c.in_ok-x.x.site c.to_pass-pass.result) =
    let slot = rw c.node_of-node.ensures.0 at (sym c.has_slot.ensures ∙ c.if-not-has_slot.false) in
    let room = rw c.node_of-node.ensures.0 at (sym c.has_room.ensures ∙ c.if-not-has_room.false) in
    (put_there c.args.table.bytes.now c.args.s.number c.args.key c.args.quality c.args.level (as_session c.in_ok-x.x) c.in_ok-x.ensures.ok.says c.node_of-node.result.partition c.node_of-node.ensures.1 c.in_ok-x.ensures.ok.is_open c.if-x.false c.in_ok-x.ensures.ok.there (formed c.args.table.bytes.now c.args.table.formed).sites) ∙ rw (slot, room, c.clock-stamp.ensures, c.node.ensures.0, c.to_pass-pass.ensures, c.node_of-node.ensures.0) in
    rw c.node_of-node.ensures.0 at c.stored.ensures ∙ sym (by_clock ∙ rw (lt-ltb c.to_pass-pass.result c.clock-stamp.result c.if-stamp-pass.false, to_z-of_z w32 c.args.level (search rules)))
