-- `record::bytes::store_message` meets its contract, variant by variant.
use mathlib.Core.Path.{◌∙◌}
use Rattle.vector.proofs.Entries.{entry-zeros}
use Rattle.record.specs.RecordBytes.{put_message}
use Rattle.record.proofs.Meaning.{message_told}
use Rattle.record.proofs.bytes.store_message.Goals as goal

pub returns-in-Update : goal.returns-in-Update
unfolding put_message
returns-in-Update c =
    let x = c.args.x in
    c.store_fields.ensures ∙ rw (message_told x _ c.in-Update.is)

pub returns-in-Heartbeat : goal.returns-in-Heartbeat
unfolding put_message
returns-in-Heartbeat c =
    let x = c.args.x in
    c.store_fields-in-Heartbeat.ensures ∙ rw (entry-zeros, message_told x _ c.in-Heartbeat.is)
