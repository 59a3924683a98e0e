-- Every change of a table of bytes gives bytes. In order: lists, a number and what is made of numbers, and from a thing up to the table.
use Prim.Native.Nat.{ℕ, zero, suc, ◌+◌, ◌*◌, ◌-◌, ◌/◌, ◌%◌, ◌<◌, max}
use native.Mathlib.Omega.{arith}
use mathlib.Core.List.{List, [], ◌∷◌, ◌++◌}
use lib.ListN.{set, take, drop}
use lib.Seq.{get_or-drop}
use mir.Syntax.{w8}
use mir.Val.{Fits}
use mir.Facts.{Fits-lit, Fits-below}
use Rattle.codec.specs.Le.{load, put, span, Bytes}
use Rattle.codec.specs.Tabulate.{tabulate}
use Rattle.codec.specs.Fields.{Field, field, put_all}
use Rattle.codec.specs.Part.{part_of, on_part}
use Rattle.codec.proofs.Le.{load_lt}
use Rattle.vector.specs.Vec.{Vec, width}
use Rattle.vector.specs.Entries.{put_first, put_vec}
use Rattle.protocol.specs.Record.{Setting, Rec, Msg, Update, Heartbeat, stamp_in}
use Rattle.protocol.specs.State.{Mark, Session}
use Rattle.protocol.specs.Change.{Change, SetSession, SetClock, Publish, Receive}
use Rattle.record.specs.RecordBytes.{record_fields, put_record, beat, put_message}
use Rattle.parts.specs.Node.{held_in, slot_at, clock_set, stored, published, received}
use Rattle.parts.specs.Channel.{front_in, wait_in, ring_at, pushed, popped}
use Rattle.parts.specs.Session.{flag, put_marks, head_fields, put_session}
use Rattle.search.specs.Kept.{place_in, places_in}
use Rattle.search.proofs.Kept.{place_held}
use Rattle.table.specs.Parts.{session_at, site_at, node_at, channel_at, kept_at, place_of, site_of, node_of, on_session, on_site, on_node, on_channel, on_kept}
use Rattle.table.specs.Decode.{setting_in}
use Rattle.table.specs.Put.{sent_to, published_on, put_core, kept_anew, kept_after, put_change, put_changes}
use Rattle.table.proofs.Parts.{part_every, bytes-node_of}

-- f of bytes is bytes
abbrev pub Gives : (List ℕ → List ℕ) → Type 0
Gives f = (s : List ℕ) → Bytes s → Bytes (f s)

-- ---- lists

bytes_cons : (x : ℕ) (s : List ℕ) → Fits w8 x → Bytes s → Bytes (x ∷ s)
bytes_cons x s h all zero = h
bytes_cons x s h all (suc i) = all i

bytes-append : (s t : List ℕ) → Bytes s → Bytes t → Bytes (s ++ t)
bytes-append [] t h g = g
bytes-append (x ∷ s) t h g = bytes_cons x (s ++ t) (h 0) (bytes-append s t (λ i. h (suc i)) g)

bytes-set : (s : List ℕ) (i x : ℕ) → Fits w8 x → Bytes s → Bytes (set s i x)
bytes-set [] i x h all = all
bytes-set (y ∷ s) zero x h all = bytes_cons x s h (λ i. all (suc i))
bytes-set (y ∷ s) (suc i) x h all = bytes_cons y (set s i x) (all 0) (bytes-set s i x h (λ j. all (suc j)))

bytes-tabulate : (n : ℕ) (f : ℕ → ℕ) → ((i : ℕ) → f i < 256) → Bytes (tabulate n f)
unfolding tabulate
bytes-tabulate zero f h = λ i. Fits-lit tt
bytes-tabulate (suc n) f h = bytes_cons (f 0) (tabulate n (λ i. f (suc i))) (Fits-below {n = 255} tt (omega (arith, h 0))) (bytes-tabulate n (λ i. f (suc i)) (λ i. h (suc i)))

bytes_drop : (n : ℕ) (s : List ℕ) → Bytes s → Bytes (drop n s)
bytes_drop n s all i = rw (get_or-drop n s i 0) (all (n + i))

bytes-on_part : (off k : ℕ) (f : List ℕ → List ℕ) → Gives f → Gives (on_part off k f)
bytes-on_part off k f g t all =
    bytes-append (take off t) (f (part_of off k t) ++ drop k (drop off t)) (part_every (Fits w8) (Fits-lit tt) 0 off t (λ i. all (0 + i)))
    (bytes-append (f (part_of off k t)) (drop k (drop off t)) (g (part_of off k t) (part_every (Fits w8) (Fits-lit tt) off k t (λ i. all (off + i))))
    (bytes_drop k (drop off t) (bytes_drop off t all)))

-- ---- numbers

pub bytes-put : (n : ℕ) (t : List ℕ) (at x : ℕ) → Bytes t → Bytes (put n t at x)
unfolding put
bytes-put zero t at x all = all
bytes-put (suc n) t at x all =
    bytes-put n (set t at (x % 256)) (suc at) (x / 256) (bytes-set t at (x % 256) (Fits-below {n = 255} tt (omega arith)) all)

bytes-put_first : (n : ℕ) (t : List ℕ) (at : ℕ) (v : Vec) → Bytes t → Bytes (put_first n t at v)
unfolding put_first
bytes-put_first zero t at v all = all
bytes-put_first (suc n) t at v all = bytes-put 8 (put_first n t at v) (at + 8 * n) (v n) (bytes-put_first n t at v all)

bytes-put_vec : (t : List ℕ) (at : ℕ) (v : Vec) → Bytes t → Bytes (put_vec t at v)
unfolding put_vec
bytes-put_vec t at v all = bytes-put_first width t at v all

bytes-put_all : (at : ℕ) (fs : List Field) (b : List ℕ) → Bytes b → Bytes (put_all at fs b)
bytes-put_all at [] b all = all
bytes-put_all at (field p w x ∷ fs) b all = bytes-put_all at fs (put w b (at + p) x) (bytes-put w b (at + p) x all)

bytes-put_record : (b : List ℕ) (at kind : ℕ) (r : Rec) → Bytes b → Bytes (put_record b at kind r)
unfolding put_record
bytes-put_record b at kind r all = bytes-put_vec (put_all at (record_fields kind r) b) (at + 16) r.carried (bytes-put_all at (record_fields kind r) b all)

bytes-put_message : (b : List ℕ) (at m : ℕ) (x : Msg) → Bytes b → Bytes (put_message b at m x)
unfolding put_message
bytes-put_message b at m (Update r) = bytes-put_record b at 1 r
bytes-put_message b at m (Heartbeat t) = bytes-put_record b at 2 (beat m t)

bytes-put_marks : (b : List ℕ) (i : ℕ) (ms : List Mark) → Bytes b → Bytes (put_marks b i ms)
unfolding put_marks
bytes-put_marks b i [] all = all
bytes-put_marks b i (m ∷ ms) all =
    bytes-put_marks (put 1 (put 1 b (8 + i) m.key) (16 + i) (flag m.read)) (suc i) ms
    (bytes-put 1 (put 1 b (8 + i) m.key) (16 + i) (flag m.read) (bytes-put 1 b (8 + i) m.key all))

-- ---- things

bytes-put_session : (x : Session) → Gives (put_session x)
unfolding put_session
bytes-put_session x b all =
    bytes-put_marks _ 0 x.page.marks
    (bytes-put_vec _ 96 x.page.gathered
    (bytes-put_vec _ 64 x.page.vec
    (bytes-put_vec _ 32 x.vec (bytes-put_all 0 (head_fields x) b all))))

bytes-clock_set : (t : ℕ) → Gives (clock_set t)
unfolding clock_set
bytes-clock_set t n all = bytes-put 8 n 0 t all

bytes-stored : (x : Msg) → Gives (stored x)
unfolding stored
bytes-stored (Update r) n all =
    bytes-put 1 (put_record n (slot_at (held_in n)) 1 r) 40 (held_in n + 1) (bytes-put_record n (slot_at (held_in n)) 1 r all)
bytes-stored (Heartbeat t) n all = all

bytes-published : (m : ℕ) (x : Msg) → Gives (published m x)
unfolding published
bytes-published m x n all = bytes-stored x (put 8 n (8 + 8 * m) (stamp_in x)) (bytes-put 8 n (8 + 8 * m) (stamp_in x) all)

bytes-received : (i : ℕ) (x : Msg) → Gives (received i x)
unfolding received
bytes-received i x n all =
    let stamp = max (load 8 n (8 + 8 * i)) (stamp_in x) in bytes-stored x (put 8 n (8 + 8 * i) stamp) (bytes-put 8 n (8 + 8 * i) stamp all)

bytes-pushed : (m : ℕ) (x : Msg) → Gives (pushed m x)
unfolding pushed
bytes-pushed m x c all =
    let last = ring_at (front_in c) (wait_in c) in bytes-put 1 (put_message c last m x) 1 (wait_in c + 1) (bytes-put_message c last m x all)

bytes-popped : Gives popped
unfolding popped
bytes-popped c all =
    bytes-put 1 (put 1 c 0 ((front_in c + 1) % 8)) 1 (wait_in c - 1) (bytes-put 1 c 0 ((front_in c + 1) % 8) all)

-- ---- the table

bytes-on_site : (m : ℕ) (f : List ℕ → List ℕ) → Gives f → Gives (on_site m f)
unfolding on_site
bytes-on_site m f = bytes-on_part (site_at m) 13056 f

bytes-on_node : (p : ℕ) (f : List ℕ → List ℕ) → Gives f → Gives (on_node p f)
unfolding on_node
bytes-on_node p f = bytes-on_part (node_at p) 1856 f

bytes-on_channel : (p d : ℕ) (f : List ℕ → List ℕ) → Gives f → Gives (on_channel p d f)
unfolding on_channel
bytes-on_channel p d f = bytes-on_part (channel_at p d) 464 f

bytes-sent_to : (n m p : ℕ) (x : Msg) → Gives (sent_to n m p x)
unfolding sent_to
bytes-sent_to zero m p x s all = all
bytes-sent_to (suc n) m p x s all = bytes-on_channel p n (pushed m x) (bytes-pushed m x) (sent_to n m p x s) (bytes-sent_to n m p x s all)

bytes-published_on : (n m p : ℕ) (x : Msg) → Gives (published_on n m p x)
unfolding published_on
bytes-published_on n m p x s all =
    bytes-sent_to n m p x (on_node p (published m x) s) (bytes-on_node p (published m x) (bytes-published m x) s all)

bytes_core : (c : Change) → Gives (put_core c)
unfolding put_core on_session
bytes_core (SetSession s x) t = bytes-on_part (session_at s) 128 (put_session x) (bytes-put_session x) t
bytes_core (SetClock m p c) t = bytes-on_site m (on_node p (clock_set c)) (bytes-on_node p (clock_set c) (bytes-clock_set c)) t
bytes_core (Publish m p x) t = bytes-on_site m (published_on (load 1 t 0 - 1) m p x) (bytes-published_on (load 1 t 0 - 1) m p x) t
bytes_core (Receive i m p x) t = λ all.
    bytes-on_site i (on_channel p (place_of i m) popped) (bytes-on_channel p (place_of i m) popped bytes-popped) (on_site m (on_node p (received i x)) t)
    (bytes-on_site m (on_node p (received i x)) (bytes-on_node p (received i x) (bytes-received i x)) t all)

bytes_anew : (m p : ℕ) → Gives (kept_anew m p)
unfolding kept_anew on_kept places_in
bytes_anew m p t all =
    let n = node_of (site_of t m) p in
    let c = setting_in t in
    bytes-on_part (kept_at m p) 64 (λ s. tabulate 64 (place_in c n)) (λ s b. bytes-tabulate 64 (place_in c n) (λ k. small c n (bytes-node_of t all m p) k)) t all
  where
    small : (c : Setting) (n : List ℕ) → Bytes n → (k : ℕ) → place_in c n k < 256
    small c n b k =
        let held : held_in n < 256 = unfold held_in span in load_lt 1 n 40 b in
        omega (arith, place_held c n k)

bytes_after : (c : Change) → Gives (kept_after c)
unfolding kept_after
bytes_after (SetSession s x) t all = all
bytes_after (SetClock m p c) t all = all
bytes_after (Publish m p x) t all = bytes_anew m p t all
bytes_after (Receive i m p x) t all = bytes_anew m p t all

pub bytes-put_change : (c : Change) → Gives (put_change c)
unfolding put_change
bytes-put_change c t all = bytes_after c (put_core c t) (bytes_core c t all)

pub bytes-put_changes : (cs : List Change) → Gives (put_changes cs)
unfolding put_changes
bytes-put_changes [] t all = all
bytes-put_changes (c ∷ cs) t all = bytes-put_changes cs (put_change c t) (bytes-put_change c t all)
