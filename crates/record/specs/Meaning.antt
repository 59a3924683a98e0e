-- The records and messages that the code holds, as the protocol's.
use Rattle.vector.specs.Meaning.{as_vec}
use Rattle.vector.specs.declared.Vector.{Vector}
use Rattle.protocol.specs.Record.{Rec, Msg, Update, Heartbeat}
use Rattle.record.specs.declared.Numbers.{Numbers}
use Rattle.record.specs.declared.Record.{Record}
use Rattle.record.specs.declared.Message.{Message}
use Rattle.record.specs.declared.Letter.{Letter}

abbrev pub record_of : Numbers → Vector → Rec
record_of r v = record { id = record { key = r.key; source = r.source; stamp = r.stamp }; quality = r.quality; level = r.level; carried = as_vec v }

abbrev pub as_record : Record → Rec
as_record r = record_of r.numbers r.carried

abbrev pub message_of : Message → Vector → Msg
message_of (Message.Update r) v = Update (record_of r v)
message_of (Message.Heartbeat stamp) v = Heartbeat stamp

abbrev pub as_message : Letter → Msg
as_message x = message_of x.message x.carried
