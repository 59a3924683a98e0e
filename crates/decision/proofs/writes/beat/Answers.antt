-- `decision::writes::beat` meets its contract, by the tests in their order.
use mathlib.Core.Path.{◌≡◌, sym, ◌∙◌}
use mathlib.Core.Bool.{Bool, true, false}
use native.Mathlib.Omega.{arith}
use borrow.Author.Tests.{lt-ltb, le-ltb}
use lib.Dec.{ltb}
use Rattle.parts.specs.Node.{clock_in, heard_in}
use Rattle.table.specs.Parts.{site_of, node_of}
use Rattle.lawful.proofs.Facts.{formed}
use Rattle.decision.proofs.Room.{roomy}
use Rattle.decision.proofs.Times.{beat-answered}
use Rattle.decision.proofs.writes.beat.Goals as goal

pub returns-then-stamp-own : goal.returns-then-stamp-own
returns-then-stamp-own c =
    let sends : Bool = let n = node_of (site_of c.args.table.bytes.now c.args.node.site) c.args.node.partition in ltb (heard_in n c.args.node.site) (clock_in n) in
    let sends_loaded : sends ≡ ltb c.own.result c.clock-stamp.result = rw (c.own.ensures, c.clock-stamp.ensures, c.node.ensures.0) in
    let e : sends ≡ false = sends_loaded ∙ le-ltb c.own.result c.clock-stamp.result (omega (arith, c.if-stamp-own.true)) in
    rw (c.done.ensures.0, c.done.ensures.1, beat-answered c.args.table.bytes.now c.args.node.site c.args.node.partition c.requires.0 (formed c.args.table.bytes.now c.args.table.formed).sites, e)

pub returns-then-not-has_room : goal.returns-then-not-has_room
unfolding roomy
returns-then-not-has_room c =
    let sends : Bool = let n = node_of (site_of c.args.table.bytes.now c.args.node.site) c.args.node.partition in ltb (heard_in n c.args.node.site) (clock_in n) in
    let sends_loaded : sends ≡ ltb c.own.result c.clock-stamp.result = rw (c.own.ensures, c.clock-stamp.ensures, c.node.ensures.0) in
    let e : sends ≡ true = sends_loaded ∙ lt-ltb c.own.result c.clock-stamp.result (omega (arith, c.if-stamp-own.false)) in
    let full = sym c.has_room.ensures ∙ c.if-not-has_room.true in
    sym (beat-answered c.args.table.bytes.now c.args.node.site c.args.node.partition c.requires.0 (formed c.args.table.bytes.now c.args.table.formed).sites ∙ rw (e, full))

pub returns : goal.returns
unfolding roomy
returns c =
    let sends : Bool = let n = node_of (site_of c.args.table.bytes.now c.args.node.site) c.args.node.partition in ltb (heard_in n c.args.node.site) (clock_in n) in
    let sends_loaded : sends ≡ ltb c.own.result c.clock-stamp.result = rw (c.own.ensures, c.clock-stamp.ensures, c.node.ensures.0) in
    let e : sends ≡ true = sends_loaded ∙ lt-ltb c.own.result c.clock-stamp.result (omega (arith, c.if-stamp-own.false)) in
    let free = sym c.has_room.ensures ∙ c.if-not-has_room.false in
    rw (c.done-2.ensures.0, c.done-2.ensures.1, beat-answered c.args.table.bytes.now c.args.node.site c.args.node.partition c.requires.0 (formed c.args.table.bytes.now c.args.table.formed).sites, e, free, c.clock-stamp.ensures, c.node.ensures.0)
