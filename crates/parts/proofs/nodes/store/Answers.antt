-- `parts::nodes::store` meets its contract: an update is added, a heartbeat is not.
use mathlib.Core.Path.{sym, ap, ◌∙◌, subst}
use native.Mathlib.Omega.{arith}
use Rattle.record.specs.RecordBytes.{put_message}
use Rattle.record.proofs.Meaning.{message_told}
use Rattle.parts.specs.Node.{stored}
use Rattle.parts.specs.Room.{Room}
use Rattle.parts.proofs.nodes.store.Goals as goal

pub add-requires : goal.add-requires
add-requires c =
    (omega arith, subst (λ y. Room y c.args.n.now) (message_told c.args.x _ c.in-Update.is) c.requires.1)

pub returns-in-Update : goal.returns-in-Update
unfolding stored put_message
returns-in-Update c =
    let x = c.args.x in
    c.add.ensures ∙ rw (message_told x _ c.in-Update.is)

pub returns-in-Heartbeat : goal.returns-in-Heartbeat
unfolding stored
returns-in-Heartbeat c =
    sym (ap (λ y. stored y c.args.n.now) (message_told c.args.x _ c.in-Heartbeat.is))
