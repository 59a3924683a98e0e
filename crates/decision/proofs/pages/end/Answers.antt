-- `decision::pages::end` meets its contract: each return is a rung of the ladder.
use mathlib.Core.Path.{◌≡◌, refl, sym, ap, ◌∙◌}
use Rattle.vector.specs.Vec.{larger}
use Rattle.vector.specs.Meaning.{as_vec}
use Rattle.vector.proofs.Vec.{raised-plain}
use Rattle.protocol.specs.State.{Session, no_page, with_vec, with_page}
use Rattle.protocol.proofs.Ladders.{if_page_lem}
use Rattle.parts.specs.Meaning.{as_session}
use Rattle.parts.specs.Session.{session_in}
use Rattle.table.specs.Parts.{session_of}
use Rattle.decision.proofs.Exits.{turned}
use Rattle.decision.proofs.Ladders.{end_says}
use Rattle.decision.proofs.pages.end.Goals as goal

pub returns-in_err-x : goal.returns-in_err-x
returns-in_err-x c =
    let a = c.args in
    let met = c.in_err-x.ensures.err in
    turned _ _ c.from_residual.ensures.1 _ met.0 ∙ sym (end_says a.table.bytes.now a.s.number (session_in (session_of a.table.bytes.now a.s.number)) refl ∙ rw met.1)

pub returns-then-not-x : goal.returns-then-not-x
returns-then-not-x c =
    let a = c.args in
    let x = c.in_ok-x.ensures.ok in
    sym (end_says a.table.bytes.now a.s.number (as_session c.in_ok-x.x) x.says ∙ rw (x.is_open, c.if-not-x.true))

pub returns-then-not-all_read : goal.returns-then-not-all_read
returns-then-not-all_read c =
    let a = c.args in
    let x = c.in_ok-x.ensures.ok in
    sym (end_says a.table.bytes.now a.s.number (as_session c.in_ok-x.x) x.says ∙ rw (x.is_open, c.if-not-x.false, sym (c.all_read.ensures c.in_ok-x.x.marks.page.keys), c.if-not-all_read.true))

pub raise-requires : goal.raise-requires
raise-requires c = c.in_ok-x.ensures.ok.site

pub returns : goal.returns
returns c =
    let a = c.args in
    let x = c.in_ok-x.x in
    let known = c.in_ok-x.ensures.ok in
    let raised : as_session c.ended.result ≡ with_page (with_vec (as_session x) (larger (as_vec x.vec) (as_vec x.gathered))) no_page =
    c.ended.ensures ∙ ap (λ (y : Session). with_page y no_page) c.raise.ensures ∙ rw (raised-plain (as_vec x.vec) (as_vec x.gathered) x.site) in
    c.kept.ensures
    ∙ sym (end_says a.table.bytes.now a.s.number (as_session x) known.says ∙ if_page_lem (as_session x) known.is_open c.if-not-x.false ∙ rw (sym (c.all_read.ensures x.marks.page.keys), c.if-not-all_read.false, raised))
