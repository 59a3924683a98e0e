-- A channel's 464 bytes, a ring of 8: 0 the front's place, 1 how many messages wait, 16 + 56 k the message in place k.
use Rattle.std.specs.Prelude.{ℕ, ◌+◌, ◌*◌, ◌-◌, ◌%◌, List}
use Rattle.codec.specs.Le.{load, put}
use Rattle.codec.specs.Tabulate.{tabulate}
use Rattle.protocol.specs.Record.{Msg}
use Rattle.record.specs.RecordBytes.{message_at, put_message}

unfoldable pub front_in : List ℕ → ℕ
front_in c = load 1 c 0

-- how many messages wait
unfoldable pub wait_in : List ℕ → ℕ
wait_in c = load 1 c 1

-- the place of the message that stands k behind the front
abbrev pub ring_at : (front k : ℕ) → ℕ
ring_at front k = 16 + 56 * ((front + k) % 8)

unfoldable pub queue_in : List ℕ → List Msg
queue_in c = tabulate (wait_in c) (λ k. message_at c (ring_at (front_in c) k))

-- ---- changes

-- a message of site m goes behind the last
unfoldable pub pushed : (m : ℕ) → Msg → List ℕ → List ℕ
pushed m x c = put 1 (put_message c (ring_at (front_in c) (wait_in c)) m x) 1 (wait_in c + 1)

-- the front message leaves
unfoldable pub popped : List ℕ → List ℕ
popped c = put 1 (put 1 c 0 ((front_in c + 1) % 8)) 1 (wait_in c - 1)
