-- A node's bytes stay well formed: when its clock is set, and when a stamp and a lawful message come to it. In order: the clock, a stamp in one
-- entry, an update stored behind the others, then its own message and another's.
use Prim.Native.Nat.{ℕ, ◌+◌, ◌*◌, max, ◌≤◌, ◌<◌}
use native.Mathlib.Omega.{arith}
use mathlib.Core.Path.{◌≡◌, ◌∙◌}
use mathlib.Core.List.{List}
use lib.Dec.{T}
use lib.ListN.{length}
use mir.Facts.{yes_ltb}
use borrow.Author.Count.{below_more}
use borrow.Author.Tests.{lt-ltb}
use Rattle.codec.specs.Le.{load, put}
use Rattle.codec.proofs.Le.{length-put, load-put-other}
use Rattle.vector.specs.Vec.{with_entry}
use Rattle.vector.proofs.Entries.{load_vec-below, load_vec-beyond}
use Rattle.protocol.specs.Record.{Setting, Rec, Msg, Update, Heartbeat, stamp_in}
use Rattle.protocol.specs.Times.{time_limit, top_of}
use Rattle.protocol.proofs.Times.{time-fits, stamp-fits}
use Rattle.record.specs.RecordBytes.{put_record}
use Rattle.record.specs.Ranges.{time_lawful, vec_lawful}
use Rattle.record.specs.RecordFormed.{record_formed}
use Rattle.record.proofs.Ranges.{LawfulVec, vec_facts, vec_lawful_lem, with_entry_lawful, LawfulRec, LawfulMsg, stamp_lawful_lem}
use Rattle.record.proofs.RecordFormed.{record_formed_ext, record_formed_put}
use Rattle.parts.specs.Node.{slot_at, clock_in, heard_in, held_in, clock_set, stored, published, received}
use Rattle.parts.specs.Room.{Room}
use Rattle.parts.proofs.NodeBytes.{held_before, room_before, clock-clock_set, heard-clock_set, load_update, held_update, clock-stored, heard-stored, clock-published, heard-published}
use Rattle.lawful.proofs.Facts.{NodeFacts}

module _ (c : Setting) (m p : ℕ) where
  -- ---- a put before the records

  module _ (n : List ℕ) (w at v : ℕ) (h : at + w ≤ 40) where
    facts_before : T (time_lawful (clock_in (put w n at v))) → T (vec_lawful c (heard_in (put w n at v))) → NodeFacts c m p n → NodeFacts c m p (put w n at v)
    facts_before clock heard F = record {
      clock = clock;
      heard = heard;
      held = rw (held_before n w at v h) F.held;
      slots = λ k b. rw (record_formed_ext c p (put w n at v) n (slot_at k) (λ u j a d. load-put-other u w n at v j (λ i e f g l. omega arith))) (F.slots k (omega (arith, held_before n w at v h)));
    }

  pub clock-kept : (t : ℕ) (n : List ℕ) → length n ≡ 1856 → t < time_limit → NodeFacts c m p n → NodeFacts c m p (clock_set t n)
  unfolding clock_set time_lawful
  clock-kept t n l h F =
      facts_before n 8 0 t (omega arith) (rw (clock-clock_set t n l (time-fits t h)) (yes_ltb h))
      (rw (heard-clock_set t n) F.heard) F

  heard_lawful : (n : List ℕ) → NodeFacts c m p n → LawfulVec c (heard_in n)
  unfolding heard_in
  heard_lawful n F = vec_facts c (heard_in n) F.heard (load_vec-beyond n 8)

  -- ---- a stamp in entry i

  module _ (n : List ℕ) (i v : ℕ) (l : length n ≡ 1856) (few : c.sites ≤ 4) (h : i < c.sites) (b : v < top_of c) where
    entry_kept : NodeFacts c m p n → NodeFacts c m p (put 8 n (8 + 8 * i) v)
    unfolding published stored stamp_in
    entry_kept F =
        let clock : clock_in (put 8 n (8 + 8 * i) v) ≡ clock_in n = clock-published i (Heartbeat v) n l (omega arith) in
        let heard : heard_in (put 8 n (8 + 8 * i) v) ≡ with_entry (heard_in n) i v = heard-published i (Heartbeat v) n l (omega arith) (stamp-fits c v b) in
        facts_before n 8 (8 + 8 * i) v (omega arith) (rw clock F.clock)
        (rw heard (vec_lawful_lem c (with_entry (heard_in n) i v) (with_entry_lawful c (heard_in n) i v (heard_lawful n F) h b))) F

  -- ---- an update stored behind the others

  module _ (r : Rec) (n : List ℕ) (l : length n ≡ 1856) (room : held_in n < 32) where
    abbrev u : List ℕ
    u = put_record n (slot_at (held_in n)) 1 r

    slots_update : c.sites ≤ 4 → LawfulRec c p r → NodeFacts c m p n → (k : ℕ) → k < held_in n + 1 → T (record_formed c p (stored (Update r) n) (slot_at k))
    slots_update few ok F =
        below_more (λ k. T (record_formed c p (stored (Update r) n) (slot_at k))) (held_in n)
        (λ k g.
        rw (record_formed_ext c p (stored (Update r) n) n (slot_at k) (λ w j a b. load_update r n l room w j (λ i d e f h. omega arith) (λ i d e f h. omega arith)))
        (F.slots k g))
        (rw (record_formed_ext c p (stored (Update r) n) u (slot_at (held_in n)) (λ w j a b. unfold stored in load-put-other w 1 u 40 (held_in n + 1) j (λ i d e f h. omega arith)))
        (record_formed_put c few p n (slot_at (held_in n)) (omega arith) r ok))

  module _ (few : c.sites ≤ 4) (site : m < c.sites) (part : p < c.partitions) where
    stored-kept : (i : ℕ) (x : Msg) (n : List ℕ) → length n ≡ 1856 → LawfulMsg c i p x → Room x n → NodeFacts c m p n → NodeFacts c m p (stored x n)
    stored-kept i (Update r) n l ok room F = record {
      clock = rw (clock-stored (Update r) n) F.clock;
      heard = rw (heard-stored (Update r) n) F.heard;
      held = rw (lt-ltb m c.sites site, lt-ltb p c.partitions part) (omega (arith, held_update r n l room));
      slots = λ k b. slots_update r n l room few ok.1 F k (omega (arith, held_update r n l room));
    }
    stored-kept i (Heartbeat t) n l ok room F = unfold stored in F

    -- a lawful message of site i, with a stamp in its entry
    message_kept : (i v : ℕ) (x : Msg) (n : List ℕ) → length n ≡ 1856 → i < c.sites → v < top_of c → LawfulMsg c i p x → Room x n → NodeFacts c m p n → NodeFacts c m p (stored x (put 8 n (8 + 8 * i) v))
    message_kept i v x n l h b ok room F =
        stored-kept i x (put 8 n (8 + 8 * i) v) (length-put 8 n (8 + 8 * i) v ∙ l) ok (room_before n 8 (8 + 8 * i) v (omega arith) x room) (entry_kept n i v l few h b F)

    -- ---- its own message, and another's

    pub published-kept : (x : Msg) (n : List ℕ) → length n ≡ 1856 → LawfulMsg c m p x → Room x n → NodeFacts c m p n → NodeFacts c m p (published m x n)
    unfolding published
    published-kept x n l ok room F = message_kept m (stamp_in x) x n l site (stamp_lawful_lem c m p x ok) ok room F

    pub received-kept : (i : ℕ) (x : Msg) (n : List ℕ) → length n ≡ 1856 → i < c.sites → LawfulMsg c i p x → Room x n → NodeFacts c m p n → NodeFacts c m p (received i x n)
    unfolding received heard_in
    received-kept i x n l h ok room F =
        let old = (heard_lawful n F).below i in
        let is = load_vec-below n 8 i (omega arith) in
        message_kept i (max (load 8 n (8 + 8 * i)) (stamp_in x)) x n l h (omega (arith, stamp_lawful_lem c i p x ok)) ok room F
