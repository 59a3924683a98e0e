-- `table::kept::note_message` meets its contract: an update is noted, a heartbeat is not.
use mathlib.Core.Path.{sym, ap, ◌∙◌}
use Rattle.record.proofs.Meaning.{message_told}
use Rattle.table.specs.Noted.{message_noted}
use Rattle.table.proofs.kept.note_message.Goals as goal

pub returns-in-Update : goal.returns-in-Update
unfolding message_noted
returns-in-Update c =
    c.note.ensures ∙ rw (message_told c.args.x _ c.in-Update.is)

pub returns-in-Heartbeat : goal.returns-in-Heartbeat
unfolding message_noted
returns-in-Heartbeat c =
    sym (ap (λ y. message_noted c.args.node.site c.args.node.partition y c.args.t.now) (message_told c.args.x _ c.in-Heartbeat.is))
