-- `decision::sessions::close_session` meets its contract: each return is a rung of the ladder.
use mathlib.Core.Path.{refl, sym, ap, ◌∙◌}
use Rattle.protocol.specs.declared.Answer.{Answer}
use Rattle.protocol.proofs.Ladders.{keeps}
use Rattle.parts.specs.Meaning.{as_session}
use Rattle.parts.specs.Session.{session_in}
use Rattle.table.specs.Parts.{session_of}
use Rattle.decision.proofs.Exits.{turned}
use Rattle.decision.proofs.Ladders.{close_says}
use Rattle.decision.proofs.sessions.close_session.Goals as goal

pub returns-in_err-opened : goal.returns-in_err-opened
returns-in_err-opened c =
    let a = c.args in
    let met = c.in_err-opened.ensures.err in
    turned _ _ c.from_residual.ensures.1 _ met.0 ∙ sym (close_says a.table.bytes.now a.s.number (session_in (session_of a.table.bytes.now a.s.number)) refl ∙ rw met.1)

pub returns : goal.returns
returns c =
    let a = c.args in
    let x = c.in_ok-opened.ensures.ok in
    c.kept.ensures ∙ ap (keeps Answer.Done _) c.closed.ensures ∙ sym (close_says a.table.bytes.now a.s.number (as_session c.in_ok-opened.field-0) x.says ∙ rw x.is_open)
