-- `decision::sessions::get` meets its contract: each return is a rung of the ladder.
use mathlib.Core.Path.{◌≡◌, refl, sym, ◌∙◌}
use Rattle.vector.specs.Meaning.{as_vec}
use Rattle.protocol.specs.Record.{of_key}
use Rattle.protocol.specs.Shelf.{found}
use Rattle.protocol.proofs.Ladders.{if_no_page_lem}
use Rattle.parts.specs.Meaning.{as_session}
use Rattle.parts.specs.Session.{session_in}
use Rattle.search.specs.Found.{found_of}
use Rattle.table.specs.Parts.{session_of}
use Rattle.table.specs.Decode.{setting_in}
use Rattle.decision.proofs.Exits.{turned}
use Rattle.decision.proofs.Ladders.{heard_by, stored_by, get_says}
use Rattle.decision.proofs.sessions.get.Goals as goal

pub returns-in_err-x : goal.returns-in_err-x
returns-in_err-x c =
    let a = c.args in
    let met = c.in_err-x.ensures.err in
    turned _ _ c.from_residual.ensures.1 _ met.0 ∙ sym (get_says a.table.bytes.now a.s.number (session_in (session_of a.table.bytes.now a.s.number)) refl a.k ∙ rw met.1)

pub returns-then-x : goal.returns-then-x
returns-then-x c =
    let a = c.args in
    let x = c.in_ok-x.ensures.ok in
    sym (get_says a.table.bytes.now a.s.number (as_session c.in_ok-x.x) x.says a.k ∙ rw (x.is_open, c.if-x.true))

pub returns-in_err-hears : goal.returns-in_err-hears
returns-in_err-hears c =
    let a = c.args in
    let x = c.in_ok-x.x in
    let known = c.in_ok-x.ensures.ok in
    let heard = heard_by a.table.bytes.now x.site a.k in
    let hears : as_vec c.heard-heard.result ≡ heard = c.heard-heard.ensures ∙ rw (c.node_of-node.ensures.0, c.node_of-node.ensures.1) in
    let met = c.in_err-hears.ensures.err in
    turned _ _ c.from_residual-in_err-hears.ensures.1 _ met.1
    ∙ sym (get_says a.table.bytes.now a.s.number (as_session x) known.says a.k ∙ rw (known.is_open, c.if-x.false, sym hears, met.0))

pub at_hand-found-requires : goal.at_hand-found-requires
at_hand-found-requires c = c.requires

pub raised_by-requires : goal.raised_by-requires
raised_by-requires c = c.at_hand-found.ensures.1

pub returns : goal.returns
returns c =
    let a = c.args in
    let x = c.in_ok-x.x in
    let known = c.in_ok-x.ensures.ok in
    let heard = heard_by a.table.bytes.now x.site a.k in
    let hears : as_vec c.heard-heard.result ≡ heard = c.heard-heard.ensures ∙ rw (c.node_of-node.ensures.0, c.node_of-node.ensures.1) in
    let shows : found_of c.at_hand-found.result ≡ found (setting_in a.table.bytes.now) (of_key a.k) (stored_by a.table.bytes.now x.site a.k) = c.at_hand-found.ensures.0 ∙ rw (c.node_of-node.ensures.0, c.node_of-node.ensures.1) in
    c.kept.ensures
    ∙ sym (get_says a.table.bytes.now a.s.number (as_session x) known.says a.k ∙ if_no_page_lem (as_session x) known.is_open c.if-x.false ∙ rw (c.raised_by.ensures, sym hears, c.in_ok-hears.ensures.ok, c.shown.ensures, shows))
