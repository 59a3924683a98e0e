-- `decision::pages::read` meets its contract: each return is a rung of the ladder.
use mathlib.Core.Path.{◌≡◌, refl, sym, ◌∙◌}
use borrow.Author.Tests.{not-true, not-false}
use Rattle.vector.specs.Meaning.{as_vec}
use Rattle.protocol.specs.Record.{fits_page}
use Rattle.protocol.specs.Shelf.{found}
use Rattle.protocol.proofs.Ladders.{if_page_lem}
use Rattle.parts.specs.Meaning.{as_session}
use Rattle.parts.specs.Session.{session_in}
use Rattle.search.specs.Found.{found_of}
use Rattle.table.specs.Parts.{session_of}
use Rattle.table.specs.Decode.{setting_in}
use Rattle.decision.proofs.Exits.{turned}
use Rattle.decision.proofs.Ladders.{heard_by, stored_by, read-says}
use Rattle.decision.proofs.pages.read.Goals as goal

pub returns-in_err-x : goal.returns-in_err-x
returns-in_err-x c =
    let a = c.args in
    let met = c.in_err-x.ensures.err in
    turned _ _ c.from_residual.ensures.1 _ met.0 ∙ sym (read-says a.table.bytes.now a.s.number (session_in (session_of a.table.bytes.now a.s.number)) refl a.k ∙ rw met.1)

pub returns-then-not-x : goal.returns-then-not-x
returns-then-not-x c =
    let a = c.args in
    let x = c.in_ok-x.ensures.ok in
    sym (read-says a.table.bytes.now a.s.number (as_session c.in_ok-x.x) x.says a.k ∙ rw (x.is_open, not-true _ c.if-not-x.true))

pub returns-then-not-awaited : goal.returns-then-not-awaited
returns-then-not-awaited c =
    let a = c.args in
    let x = c.in_ok-x.ensures.ok in
    sym (read-says a.table.bytes.now a.s.number (as_session c.in_ok-x.x) x.says a.k ∙ rw (x.is_open, not-false _ c.if-not-x.false, sym c.awaited.ensures, c.if-not-awaited.true))

pub returns-in_err-hears : goal.returns-in_err-hears
returns-in_err-hears c =
    let a = c.args in
    let x = c.in_ok-x.x in
    let known = c.in_ok-x.ensures.ok in
    let hears : as_vec c.heard-heard.result ≡ heard_by a.table.bytes.now x.site a.k = c.heard-heard.ensures ∙ rw (c.node_of-node.ensures.0, c.node_of-node.ensures.1) in
    let met = c.in_err-hears.ensures.err in
    turned _ _ c.from_residual-in_err-hears.ensures.1 _ met.1
    ∙ sym (read-says a.table.bytes.now a.s.number (as_session x) known.says a.k ∙ rw (known.is_open, not-false _ c.if-not-x.false, sym c.awaited.ensures, c.if-not-awaited.false, sym hears, met.0))

pub read_on-requires : goal.read_on-requires
read_on-requires c = (c.in_ok-x.ensures.ok.few, c.newest-found.ensures.1)

pub returns : goal.returns
returns c =
    let a = c.args in
    let x = c.in_ok-x.x in
    let known = c.in_ok-x.ensures.ok in
    let hears : as_vec c.heard-heard.result ≡ heard_by a.table.bytes.now x.site a.k = c.heard-heard.ensures ∙ rw (c.node_of-node.ensures.0, c.node_of-node.ensures.1) in
    let shows : found_of c.newest-found.result ≡ found (setting_in a.table.bytes.now) (fits_page a.k (as_vec x.snapshot)) (stored_by a.table.bytes.now x.site a.k) =
    c.newest-found.ensures.0 ∙ rw (c.node_of-node.ensures.0, c.node_of-node.ensures.1) in
    c.kept.ensures
    ∙ sym (read-says a.table.bytes.now a.s.number (as_session x) known.says a.k ∙ if_page_lem (as_session x) known.is_open (not-false _ c.if-not-x.false) ∙ rw (c.read_on.ensures, sym c.awaited.ensures, c.if-not-awaited.false, sym hears, c.in_ok-hears.ensures.ok, c.shown.ensures, shows))
