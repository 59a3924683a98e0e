-- The laws of a node's bytes: its clock, what it has heard, and its store, after each change. In order: a put before the records, an update stored
-- behind the others, then the three changes.
use Prim.Native.Nat.{ℕ, ◌+◌, ◌*◌, max, ◌≤◌, ◌<◌}
use native.Mathlib.Decide.{ℕ_discrete}
use native.Mathlib.Omega.{arith}
use mathlib.Core.Path.{◌≡◌, refl, sym, ap, ◌∙◌, fun_ext}
use mathlib.Core.Bool.{cond}
use mathlib.Core.List.{List, ◌++◌, append-nil}
use lib.Dec.{ltb, eqb}
use lib.ListN.{length}
use borrow.Author.Tests.{lt-ltb, eq-eqb, ne_eqb}
use Rattle.codec.specs.Le.{load, put, span, Apart, Bytes}
use Rattle.codec.proofs.Le.{length-put, load-put, load-put-other, load_lt}
use Rattle.codec.proofs.Tabulate.{tab_ext, tab_more}
use Rattle.vector.specs.Vec.{with_entry, at_least}
use Rattle.vector.specs.Entries.{load_vec}
use Rattle.vector.proofs.Entries.{with_later, load_vec-below}
use Rattle.protocol.specs.Record.{Rec, Msg, Update, Heartbeat, stamp_in, records_in}
use Rattle.record.specs.RecordBytes.{record_at, put_record}
use Rattle.record.specs.Fits.{FitsRec, FitsMsg}
use Rattle.record.proofs.Lengths.{length-put_record}
use Rattle.record.proofs.RecordBytes.{Same, load_vec_ext, record_ext, load-put_record-other, record_put_record}
use Rattle.parts.specs.Node.{clock_in, heard_in, held_in, slot_at, store_in, clock_set, stored, published, received}
use Rattle.parts.specs.Room.{Room}

-- ---- a put before the records

-- the same records, as many, in the same bytes
store_ext : (s n : List ℕ) → held_in s ≡ held_in n → ((k : ℕ) → Same s n (slot_at k)) → store_in s ≡ store_in n
unfolding store_in
store_ext s n held same = rw held (tab_ext (held_in n) (λ k. record_at s (slot_at k)) (λ k. record_at n (slot_at k)) (λ k b. record_ext s n (slot_at k) (same k)))

module _ (n : List ℕ) (w at v : ℕ) (h : at + w ≤ 40) where
  pub held_before : held_in (put w n at v) ≡ held_in n
  unfolding held_in
  held_before = load-put-other 1 w n at v 40 (λ k a b c d. omega arith)

  store_before : store_in (put w n at v) ≡ store_in n
  store_before = store_ext (put w n at v) n held_before (λ k u j p q. load-put-other u w n at v j (λ i a b c d. omega arith))

  pub room_before : (x : Msg) → Room x n → Room x (put w n at v)
  room_before (Update r) room = omega (arith, held_before)
  room_before (Heartbeat t) room = tt

module _ (n : List ℕ) (m v : ℕ) (l : length n ≡ 1856) (h : m < 4) where
  clock-entry : clock_in (put 8 n (8 + 8 * m) v) ≡ clock_in n
  unfolding clock_in
  clock-entry = load-put-other 8 8 n (8 + 8 * m) v 0 (λ k a b c d. omega arith)

  heard-entry : v < span 8 → heard_in (put 8 n (8 + 8 * m) v) ≡ with_entry (heard_in n) m v
  unfolding heard_in load_vec with_entry
  heard-entry b = fun_ext (λ i. go i (ℕ_discrete i m))
    where
      go : (i : ℕ) → Dec (i ≡ m) → cond (ltb i 4) (load 8 (put 8 n (8 + 8 * m) v) (8 + 8 * i)) 0 ≡ cond (eqb i m) v (cond (ltb i 4) (load 8 n (8 + 8 * i)) 0)
      go i (yes q) = rw (eq-eqb i m q, q, lt-ltb m 4 h) (load-put 8 n (8 + 8 * m) v (omega arith) b)
      go i (no q) = rw (ne_eqb i m q, load-put-other 8 8 n (8 + 8 * m) v (8 + 8 * i) (λ k a b c d. omega arith))

-- ---- an update stored behind the others

load-stored-other : (x : Msg) (n : List ℕ) (w j : ℕ) → j + w ≤ 40 → load w (stored x n) j ≡ load w n j
unfolding stored
load-stored-other (Update r) n w j h =
    load-put-other w 1 (put_record n (slot_at (held_in n)) 1 r) 40 (held_in n + 1) j (λ k a b c d. omega arith)
    ∙ load-put_record-other n (slot_at (held_in n)) 1 r w j (λ k a b c d. omega arith)
load-stored-other (Heartbeat t) n w j h = refl

pub clock-stored : (x : Msg) (n : List ℕ) → clock_in (stored x n) ≡ clock_in n
unfolding clock_in
clock-stored x n = load-stored-other x n 8 0 (omega arith)

pub heard-stored : (x : Msg) (n : List ℕ) → heard_in (stored x n) ≡ heard_in n
unfolding heard_in
heard-stored x n = load_vec_ext (stored x n) n 8 (λ i b. load-stored-other x n 8 (8 + 8 * i) (omega arith))

module _ (r : Rec) (n : List ℕ) (l : length n ≡ 1856) (room : held_in n < 32) where
  abbrev u : List ℕ
  u = put_record n (slot_at (held_in n)) 1 r

  pub load_update : (w j : ℕ) → Apart j w 40 1 → Apart j w (slot_at (held_in n)) 48 → load w (stored (Update r) n) j ≡ load w n j
  unfolding stored
  load_update w j o o' = load-put-other w 1 u 40 (held_in n + 1) j o ∙ load-put_record-other n (slot_at (held_in n)) 1 r w j o'

  pub held_update : held_in (stored (Update r) n) ≡ held_in n + 1
  unfolding stored held_in span
  held_update = load-put 1 u 40 (held_in n + 1) (omega (arith, length-put_record n (slot_at (held_in n)) 1 r)) (omega arith)

  -- the earlier records
  old_update : (k : ℕ) → k < held_in n → record_at (stored (Update r) n) (slot_at k) ≡ record_at n (slot_at k)
  old_update k h = record_ext (stored (Update r) n) n (slot_at k) (λ w j p q. load_update w j (λ i a b c d. omega arith) (λ i a b c d. omega arith))

  new_update : FitsRec r → record_at (stored (Update r) n) (slot_at (held_in n)) ≡ r
  unfolding stored
  new_update small =
      record_ext (stored (Update r) n) u (slot_at (held_in n)) (λ w j p q. load-put-other w 1 u 40 (held_in n + 1) j (λ i a b c d. omega arith))
      ∙ record_put_record n (slot_at (held_in n)) 1 r (omega arith) small (omega arith)

store_stored : (x : Msg) (n : List ℕ) → length n ≡ 1856 → FitsMsg x → Room x n → store_in (stored x n) ≡ store_in n ++ records_in x
unfolding store_in records_in
store_stored (Update r) n l small room =
    rw (held_update r n l room)
    (tab_more (held_in n) (λ k. record_at n (slot_at k)) (λ k. record_at (stored (Update r) n) (slot_at k)) r (old_update r n l room) (new_update r n l room small))
store_stored (Heartbeat t) n l small room = unfold stored in sym (append-nil (store_in n))

-- ---- the changes

pub clock-clock_set : (t : ℕ) (n : List ℕ) → length n ≡ 1856 → t < span 8 → clock_in (clock_set t n) ≡ t
unfolding clock_in clock_set
clock-clock_set t n l h = load-put 8 n 0 t (omega arith) h

pub heard-clock_set : (t : ℕ) (n : List ℕ) → heard_in (clock_set t n) ≡ heard_in n
unfolding heard_in clock_set
heard-clock_set t n = load_vec_ext (put 8 n 0 t) n 8 (λ i b. load-put-other 8 8 n 0 t (8 + 8 * i) (λ k p q r s. omega arith))

pub store-clock_set : (t : ℕ) (n : List ℕ) → store_in (clock_set t n) ≡ store_in n
unfolding clock_set
store-clock_set t n = store_before n 8 0 t (omega arith)

stamp-fits : (x : Msg) → FitsMsg x → stamp_in x < span 8
unfolding stamp_in
stamp-fits (Update r) h = h.stamp
stamp-fits (Heartbeat t) h = h

entry-heard : (n : List ℕ) (i : ℕ) → i < 4 → heard_in n i ≡ load 8 n (8 + 8 * i)
unfolding heard_in
entry-heard n i h = load_vec-below n 8 i h

-- a stamp in entry m, and the message stored
module _ (m v : ℕ) (x : Msg) (n : List ℕ) (l : length n ≡ 1856) (h : m < 4) where
  clock_message : clock_in (stored x (put 8 n (8 + 8 * m) v)) ≡ clock_in n
  clock_message = clock-stored x (put 8 n (8 + 8 * m) v) ∙ clock-entry n m v l h

  heard_message : v < span 8 → heard_in (stored x (put 8 n (8 + 8 * m) v)) ≡ with_entry (heard_in n) m v
  heard_message b = heard-stored x (put 8 n (8 + 8 * m) v) ∙ heard-entry n m v l h b

  store_message : FitsMsg x → Room x n → store_in (stored x (put 8 n (8 + 8 * m) v)) ≡ store_in n ++ records_in x
  store_message small room =
      store_stored x (put 8 n (8 + 8 * m) v) (length-put 8 n (8 + 8 * m) v ∙ l) small (room_before n 8 (8 + 8 * m) v (omega arith) x room)
      ∙ ap (λ s. s ++ records_in x) (store_before n 8 (8 + 8 * m) v (omega arith))

module _ (m : ℕ) (x : Msg) (n : List ℕ) (l : length n ≡ 1856) (h : m < 4) where
  pub clock-published : clock_in (published m x n) ≡ clock_in n
  unfolding published
  clock-published = clock_message m (stamp_in x) x n l h

  pub heard-published : FitsMsg x → heard_in (published m x n) ≡ with_entry (heard_in n) m (stamp_in x)
  unfolding published
  heard-published small = heard_message m (stamp_in x) x n l h (stamp-fits x small)

  pub store-published : FitsMsg x → Room x n → store_in (published m x n) ≡ store_in n ++ records_in x
  unfolding published
  store-published small room = store_message m (stamp_in x) x n l h small room

module _ (i : ℕ) (x : Msg) (n : List ℕ) (l : length n ≡ 1856) (h : i < 4) where
  pub clock-received : clock_in (received i x n) ≡ clock_in n
  unfolding received
  clock-received = clock_message i (max (load 8 n (8 + 8 * i)) (stamp_in x)) x n l h

  pub heard-received : Bytes n → FitsMsg x → heard_in (received i x n) ≡ at_least (heard_in n) i (stamp_in x)
  unfolding received
  heard-received bytes small =
      heard_message i (max (load 8 n (8 + 8 * i)) (stamp_in x)) x n l h (omega (arith, load_lt 8 n (8 + 8 * i) bytes, stamp-fits x small))
      ∙ with_later (heard_in n) i (load 8 n (8 + 8 * i)) (stamp_in x) (entry-heard n i h)

  pub store-received : FitsMsg x → Room x n → store_in (received i x n) ≡ store_in n ++ records_in x
  unfolding received
  store-received small room = store_message i (max (load 8 n (8 + 8 * i)) (stamp_in x)) x n l h small room
