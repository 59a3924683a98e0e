-- When a table's bytes are well formed (R20 to R29): every value is lawful, and so is every byte that encodes a choice: flags, marks, kinds, a heartbeat's zeros;
-- and the kept places agree with the search.
-- Slots, ring places and page keys that are not in use, and spare bytes, may hold anything; flags, marks, clocks and vectors are tested at every place.
use Rattle.std.specs.Prelude.{ℕ, ◌+◌, ◌-◌, Bool, cond, ◌&&◌, List, [], ◌∷◌, leb, ltb, eqb}
use Rattle.codec.specs.Le.{load}
use Rattle.codec.specs.Below.{all_below}
use Rattle.codec.specs.Tests.{every}
use Rattle.protocol.specs.Record.{Setting}
use Rattle.record.specs.Ranges.{time_lawful, vec_lawful}
use Rattle.record.specs.RecordFormed.{message_formed, record_formed}
use Rattle.parts.specs.Node.{slot_at, clock_in, heard_in, held_in}
use Rattle.parts.specs.Channel.{ring_at, front_in, wait_in}
use Rattle.parts.specs.Session.{session_in}
use Rattle.search.specs.Kept.{place_in}
use Rattle.table.specs.Parts.{session_of, site_of, node_of, channel_of, kept_of}
use Rattle.table.specs.Decode.{setting_in}
use Rattle.lawful.specs.LawfulValues.{setting_lawful, session_lawful}

-- R21: flags and marks are 0 or 1
unfoldable pub flags_at : List ℕ → (at n : ℕ) → Bool
flags_at b at n = all_below n (λ i. ltb (load 1 b (at + i)) 2)

unfoldable pub session_formed : Setting → List ℕ → Bool
session_formed c b = every (ltb (load 1 b 0) 2 ∷ ltb (load 1 b 2) 2 ∷ flags_at b 16 8 ∷ session_lawful c (session_in b) ∷ [])

-- R24: the node of an absent site or partition holds no record
unfoldable pub node_formed : Setting → (m p : ℕ) → List ℕ → Bool
node_formed c m p n = every
    (time_lawful (clock_in n)
    ∷ vec_lawful c (heard_in n)
    ∷ leb (held_in n) (cond (ltb m c.sites && ltb p c.partitions) 32 0)
    ∷ all_below (held_in n) (λ k. record_formed c p n (slot_at k)) ∷ [])

-- R25: the channel to the place d; of the other sites those below sites - 1 exist
unfoldable pub channel_formed : Setting → (i p d : ℕ) → List ℕ → Bool
channel_formed c i p d b =
    leb (wait_in b) (cond ((ltb i c.sites && ltb p c.partitions) && ltb d (c.sites - 1)) 8 0)
    && all_below (wait_in b) (λ k. message_formed c i p b (ring_at (front_in b) k))

unfoldable pub site_formed : Setting → (m : ℕ) → List ℕ → Bool
site_formed c m site = all_below 4 (λ p. node_formed c m p (node_of site p) && all_below 3 (λ d. channel_formed c m p d (channel_of site p d)))

-- R29: the kept places s of the node n are what the search finds, at every key
unfoldable pub kept_formed : Setting → (n s : List ℕ) → Bool
kept_formed c n s = all_below 64 (λ k. eqb (load 1 s k) (place_in c n k))

-- the length is not tested here: a wrong one is refused with 23
unfoldable pub well_formed : List ℕ → Bool
well_formed t =
    let c = setting_in t in
    every
    (setting_lawful c
    ∷ all_below 16 (λ s. session_formed c (session_of t s))
    ∷ all_below 4 (λ m. site_formed c m (site_of t m))
    ∷ all_below 4 (λ m. all_below 4 (λ p. kept_formed c (node_of (site_of t m) p) (kept_of t m p))) ∷ [])
