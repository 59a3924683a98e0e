-- A node's kept places: for each key which of its records is newest, or none, as the search finds it. The laws are in proofs/Kept.
use Rattle.std.specs.Prelude.{ℕ, List}
use Rattle.codec.specs.Tabulate.{tabulate}
use Rattle.protocol.specs.Record.{Setting, of_key}
use Rattle.protocol.specs.Search.{newest_place}
use Rattle.record.specs.RecordBytes.{record_at}
use Rattle.parts.specs.Node.{slot_at, held_in}

-- R19: the place, from 1, of the newest record of key k that the node n holds; 0 where it holds none
unfoldable pub place_in : Setting → (n : List ℕ) → (k : ℕ) → ℕ
place_in c n k = newest_place c (of_key k) (λ i. record_at n (slot_at i)) (held_in n)

-- of each key, as bytes
unfoldable pub places_in : Setting → (n : List ℕ) → List ℕ
places_in c n = tabulate 64 (place_in c n)
