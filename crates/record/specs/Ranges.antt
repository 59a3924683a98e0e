-- What is lawful of a time, a stamp and a vector (R23), a record (R26) and a message (R27).
use Rattle.std.specs.Prelude.{ℕ, Bool, cond, ◌&&◌, [], ◌∷◌, ltb, eqb}
use Rattle.codec.specs.Below.{all_below}
use Rattle.codec.specs.Tests.{every}
use Rattle.vector.specs.Vec.{Vec, width}
use Rattle.protocol.specs.Record.{Setting, partition_of, Rec, Msg, Update, Heartbeat}
use Rattle.protocol.specs.Times.{time_limit, top_of}
use Rattle.protocol.specs.Needs.{level_lawful}

-- R5, of clocks
unfoldable pub time_lawful : ℕ → Bool
time_lawful t = ltb t time_limit

-- R5, of stamps and entries of vectors
unfoldable pub stamp_lawful : Setting → ℕ → Bool
stamp_lawful c t = ltb t (top_of c)

-- R23: entries of sites that exist are within the time limit, all others 0
unfoldable pub vec_lawful : Setting → Vec → Bool
vec_lawful c v = all_below width (λ i. cond (ltb i c.sites) (stamp_lawful c (v i)) (eqb (v i) 0))

-- R26, whatever the partition: each field of a record in its range
unfoldable pub record_in_range : Setting → Rec → Bool
record_in_range c r = every
    (ltb r.id.key 64
    ∷ ltb r.id.source c.sites
    ∷ ltb r.quality 3
    ∷ level_lawful r.level
    ∷ stamp_lawful c r.id.stamp
    ∷ vec_lawful c r.carried ∷ [])

-- R26: a record of partition p
unfoldable pub record_lawful : Setting → (p : ℕ) → Rec → Bool
record_lawful c p r = eqb (partition_of c r.id.key) p && record_in_range c r

-- R27: a message of the channel from site i at partition p
unfoldable pub message_lawful : Setting → (i p : ℕ) → Msg → Bool
message_lawful c i p (Update r) = eqb r.id.source i && record_lawful c p r
message_lawful c i p (Heartbeat t) = stamp_lawful c t
