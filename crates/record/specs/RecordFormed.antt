-- When the bytes of a record and of a message are well formed.
use Rattle.std.specs.Prelude.{ℕ, ◌+◌, Bool, ◌&&◌, ◌||◌, List, [], ◌∷◌, eqb}
use Rattle.codec.specs.Le.{load}
use Rattle.codec.specs.Below.{all_below}
use Rattle.codec.specs.Tests.{every}
use Rattle.vector.specs.Vec.{width}
use Rattle.vector.specs.Entries.{load_vec}
use Rattle.protocol.specs.Record.{Setting}
use Rattle.record.specs.RecordBytes.{record_at, message_at}
use Rattle.record.specs.Ranges.{record_lawful, message_lawful}

-- R26: a record in use of partition p has kind 1
unfoldable pub record_formed : Setting → (p : ℕ) → List ℕ → (at : ℕ) → Bool
record_formed c p n at = eqb (load 1 n (at + 3)) 1 && record_lawful c p (record_at n at)

-- R27: a heartbeat's zeros, and its channel's source
unfoldable pub heartbeat_formed : (i : ℕ) → List ℕ → (at : ℕ) → Bool
heartbeat_formed i b at = every
    (eqb (load 1 b at) 0
    ∷ eqb (load 1 b (at + 1)) i
    ∷ eqb (load 1 b (at + 2)) 0
    ∷ eqb (load 4 b (at + 4)) 0
    ∷ all_below width (λ e. eqb (load_vec b (at + 16) e) 0) ∷ [])

-- R27: a message in use of the channel from site i at partition p has kind 1 or 2
unfoldable pub message_formed : Setting → (i p : ℕ) → List ℕ → (at : ℕ) → Bool
message_formed c i p b at = (eqb (load 1 b (at + 3)) 1 || (eqb (load 1 b (at + 3)) 2 && heartbeat_formed i b at)) && message_lawful c i p (message_at b at)
