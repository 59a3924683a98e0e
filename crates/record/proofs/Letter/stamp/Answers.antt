-- `record::Letter::stamp` meets its contract, variant by variant.
use mathlib.Core.Path.{sym, ap}
use Rattle.protocol.specs.Record.{stamp_in}
use Rattle.record.proofs.Meaning.{message_told}
use Rattle.record.proofs.Letter.stamp.Goals as goal

pub returns-in-Update : goal.returns-in-Update
unfolding stamp_in
returns-in-Update c = sym (ap stamp_in (message_told c.args.self _ c.in-Update.is))

pub returns-in-Heartbeat : goal.returns-in-Heartbeat
unfolding stamp_in
returns-in-Heartbeat c = sym (ap stamp_in (message_told c.args.self _ c.in-Heartbeat.is))
