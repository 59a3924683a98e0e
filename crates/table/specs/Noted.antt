-- What the code does to the kept places when a message came: the record that was stored last is compared with the kept one of its key, and that one byte is
-- set. That this is `kept_anew` is proved in proofs/Follows (`publish-noted`, `receive-noted`).
use Rattle.std.specs.Prelude.{ℕ, ◌-◌, ◌≤◌, ◌<◌, List}
use Rattle.codec.specs.Le.{load, put}
use Rattle.protocol.specs.Record.{Setting, Msg, Update, Heartbeat}
use Rattle.protocol.specs.Search.{later_place}
use Rattle.record.specs.RecordBytes.{record_at}
use Rattle.parts.specs.Node.{slot_at, held_in}
use Rattle.table.specs.Parts.{site_of, node_of, kept_of, on_kept}
use Rattle.table.specs.Decode.{setting_in}

-- the kept places s of the node n, whose last record is of key k
unfoldable pub place_noted : Setting → (n : List ℕ) → (k : ℕ) → (s : List ℕ) → List ℕ
place_noted c n k s = put 1 s k (later_place c (λ i. record_at n (slot_at i)) (held_in n - 1) (load 1 s k))

unfoldable pub noted : (m p k : ℕ) → List ℕ → List ℕ
noted m p k t = on_kept m p (place_noted (setting_in t) (node_of (site_of t m) p) k) t

unfoldable pub message_noted : (m p : ℕ) → Msg → List ℕ → List ℕ
message_noted m p (Update r) t = noted m p r.id.key t
message_noted m p (Heartbeat s) t = t

-- what is asked for it: of an update that the node holds it, and that a place is kept
abbrev pub Notable : (m p : ℕ) → Msg → List ℕ → Type 0
Notable m p (Update r) t = (r.id.key < 64) × (0 < held_in (node_of (site_of t m) p)) × (held_in (node_of (site_of t m) p) ≤ 32) × (load 1 (kept_of t m p) r.id.key ≤ 32)
Notable m p (Heartbeat s) t = Unit {0}
