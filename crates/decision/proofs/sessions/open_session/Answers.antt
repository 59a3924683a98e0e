-- `decision::sessions::open_session` meets its contract: each return is a rung of the ladder.
use mathlib.Core.Path.{sym, ap, ◌∙◌}
use Rattle.protocol.specs.declared.Answer.{Answer}
use Rattle.protocol.proofs.Ladders.{keeps}
use Rattle.parts.specs.Meaning.{as_session}
use Rattle.decision.proofs.Ladders.{open_says}
use Rattle.decision.proofs.sessions.open_session.Goals as goal

pub returns-then-session : goal.returns-then-session
returns-then-session c =
    let a = c.args in
    sym (open_says a.table.bytes.now a.s.number (as_session c.session.result) c.session.ensures.0 a.m ∙ rw c.if-session.true)

pub returns : goal.returns
returns c =
    let a = c.args in
    c.kept.ensures ∙ ap (keeps Answer.Done _) c.opened.ensures ∙ sym (open_says a.table.bytes.now a.s.number (as_session c.session.result) c.session.ensures.0 a.m ∙ rw c.if-session.false)
