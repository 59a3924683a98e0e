-- R17: a record and a message are 48 bytes. What they say, and how they are written.
use Rattle.std.specs.Prelude.{ℕ, ◌+◌, cond, List, [], ◌∷◌, eqb, pos}
use Rattle.codec.specs.Le.{load}
use Rattle.codec.specs.Level.{level_from, bits_of}
use Rattle.codec.specs.Fields.{Field, field, put_all}
use Rattle.vector.specs.Vec.{zeros}
use Rattle.vector.specs.Entries.{load_vec, put_vec}
use Rattle.protocol.specs.Record.{Rec, Msg, Update, Heartbeat}

-- 0 key, 1 source site, 2 quality, 3 kind, 4–7 level, 8–15 stamp, 16–47 four vector entries
unfoldable pub record_at : List ℕ → ℕ → Rec
record_at b at = record {
  id = record { key = load 1 b at; source = load 1 b (at + 1); stamp = load 8 b (at + 8) };
  quality = load 1 b (at + 2);
  level = level_from (load 4 b (at + 4));
  carried = load_vec b (at + 16);
}

-- kind 1 is an update, 2 a heartbeat
unfoldable pub message_at : List ℕ → ℕ → Msg
message_at b at = cond (eqb (load 1 b (at + 3)) 1) (Update (record_at b at)) (Heartbeat (load 8 b (at + 8)))

-- all but the vector
abbrev pub record_fields : (kind : ℕ) → Rec → List Field
record_fields kind r =
    field 0 1 r.id.key ∷ field 1 1 r.id.source ∷ field 2 1 r.quality ∷ field 3 1 kind
    ∷ field 4 4 (bits_of r.level) ∷ field 8 8 r.id.stamp ∷ []

-- a stored record has kind 1
unfoldable pub put_record : List ℕ → (at kind : ℕ) → Rec → List ℕ
put_record b at kind r = put_vec (put_all at (record_fields kind r) b) (at + 16) r.carried

-- how a heartbeat of site m is written: key, quality, level and vector zero
abbrev pub beat : (m stamp : ℕ) → Rec
beat m t = record { id = record { key = 0; source = m; stamp = t }; quality = 0; level = pos 0; carried = zeros }

-- a message of site m
unfoldable pub put_message : List ℕ → ℕ → (m : ℕ) → Msg → List ℕ
put_message b at m (Update r) = put_record b at 1 r
put_message b at m (Heartbeat t) = put_record b at 2 (beat m t)
