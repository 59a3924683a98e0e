-- Writing a record or a message keeps the number of bytes.
use Prim.Native.Nat.{ℕ, ◌+◌}
use mathlib.Core.Path.{◌≡◌, ◌∙◌}
use mathlib.Core.List.{List}
use lib.ListN.{length}
use Rattle.codec.specs.Fields.{put_all}
use Rattle.codec.proofs.Fields.{length-put_all}
use Rattle.vector.proofs.Entries.{length-put_vec}
use Rattle.protocol.specs.Record.{Rec, Msg, Update, Heartbeat}
use Rattle.record.specs.RecordBytes.{record_fields, put_record, beat, put_message}

pub length-put_record : (b : List ℕ) (at kind : ℕ) (r : Rec) → length (put_record b at kind r) ≡ length b
unfolding put_record
length-put_record b at kind r = length-put_vec (put_all at (record_fields kind r) b) (at + 16) r.carried ∙ length-put_all at (record_fields kind r) b

pub length-put_message : (b : List ℕ) (at m : ℕ) (x : Msg) → length (put_message b at m x) ≡ length b
unfolding put_message
length-put_message b at m (Update r) = length-put_record b at 1 r
length-put_message b at m (Heartbeat t) = length-put_record b at 2 (beat m t)
