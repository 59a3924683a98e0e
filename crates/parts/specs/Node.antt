-- A node's 1,856 bytes: 0–7 clock, 8–39 heard, 40 how many records it holds, 64 + 56 k its record k. What stands in them, and what changes.
use Rattle.std.specs.Prelude.{ℕ, ◌+◌, ◌*◌, max, List}
use Rattle.codec.specs.Le.{load, put}
use Rattle.codec.specs.Tabulate.{tabulate}
use Rattle.vector.specs.Vec.{Vec}
use Rattle.vector.specs.Entries.{load_vec}
use Rattle.protocol.specs.Record.{Rec, Msg, Update, Heartbeat, stamp_in}
use Rattle.record.specs.RecordBytes.{record_at, put_record}

unfoldable pub clock_in : List ℕ → ℕ
clock_in n = load 8 n 0

unfoldable pub heard_in : List ℕ → Vec
heard_in n = load_vec n 8

-- how many records it holds
unfoldable pub held_in : List ℕ → ℕ
held_in n = load 1 n 40

abbrev pub slot_at : ℕ → ℕ
slot_at k = 64 + 56 * k

unfoldable pub store_in : List ℕ → List Rec
store_in n = tabulate (held_in n) (λ k. record_at n (slot_at k))

-- ---- changes

unfoldable pub clock_set : ℕ → List ℕ → List ℕ
clock_set t n = put 8 n 0 t

-- an update is stored behind the others
unfoldable pub stored : Msg → List ℕ → List ℕ
stored (Update r) n = put 1 (put_record n (slot_at (held_in n)) 1 r) 40 (held_in n + 1)
stored (Heartbeat t) n = n

-- its own message: entry m becomes the stamp
unfoldable pub published : (m : ℕ) → Msg → List ℕ → List ℕ
published m x n = stored x (put 8 n (8 + 8 * m) (stamp_in x))

-- a message of site i: entry i becomes at least the stamp
unfoldable pub received : (i : ℕ) → Msg → List ℕ → List ℕ
received i x n = stored x (put 8 n (8 + 8 * i) (max (load 8 n (8 + 8 * i)) (stamp_in x)))
