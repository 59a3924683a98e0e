-- `decision::pages::begin` meets its contract: each return is a rung of the ladder.
use mathlib.Core.Path.{refl, sym, ◌∙◌}
use Rattle.protocol.proofs.Ladders.{if_no_page_lem}
use Rattle.parts.specs.Meaning.{as_session}
use Rattle.parts.specs.Session.{session_in}
use Rattle.table.specs.Parts.{session_of}
use Rattle.parts.specs.Pages.{keys_on}
use Rattle.decision.proofs.Exits.{turned}
use Rattle.decision.proofs.Ladders.{begin_says}
use Rattle.decision.proofs.pages.begin.Goals as goal

pub returns-in_err-x : goal.returns-in_err-x
returns-in_err-x c =
    let a = c.args in
    let met = c.in_err-x.ensures.err in
    turned _ _ c.from_residual.ensures.1 _ met.0 ∙ sym (begin_says a.table.bytes.now a.s.number (session_in (session_of a.table.bytes.now a.s.number)) refl a.p (keys_on a.keys) ∙ rw met.1)

pub returns-then-x : goal.returns-then-x
returns-then-x c =
    let a = c.args in
    let x = c.in_ok-x.ensures.ok in
    sym (begin_says a.table.bytes.now a.s.number (as_session c.in_ok-x.x) x.says a.p (keys_on a.keys) ∙ rw (x.is_open, c.if-x.true))

pub returns-then-not-distinct : goal.returns-then-not-distinct
returns-then-not-distinct c =
    let a = c.args in
    let x = c.in_ok-x.ensures.ok in
    sym (begin_says a.table.bytes.now a.s.number (as_session c.in_ok-x.x) x.says a.p (keys_on a.keys) ∙ rw (x.is_open, c.if-x.false, sym c.distinct.ensures, c.if-not-distinct.true))

pub returns : goal.returns
returns c =
    let a = c.args in
    let x = c.in_ok-x.ensures.ok in
    c.kept.ensures
    ∙ sym (begin_says a.table.bytes.now a.s.number (as_session c.in_ok-x.x) x.says a.p (keys_on a.keys) ∙ if_no_page_lem (as_session c.in_ok-x.x) x.is_open c.if-x.false ∙ rw (c.begun.ensures, c.heard-coordinator.ensures, sym c.distinct.ensures, c.if-not-distinct.false))
