-- A fresh table says what a setup holds: nothing, in the setup's setting. In order: what zeros say, a table of zeros with its setting put, fresh.
-- `replicate` stays shut: only that all of its elements are 0 is used.
use Prim.Native.Nat.{ℕ, zero, suc, ◌+◌, ◌*◌, ◌≤◌, ◌<◌}
use native.Mathlib.Decide.{dec_lt}
use native.Mathlib.Omega.{arith}
use mathlib.Core.Path.{◌≡◌, refl, ap, ◌∙◌, fun_ext}
use mathlib.Core.Bool.{not, ◌&&◌}
use mathlib.Core.List.{List, []}
use lib.Dec.{ltb, eqb}
use lib.ListN.{length, get_or, replicate, length-replicate, get_or-replicate, get_or-eq_default}
use mir.Facts.{Fits-lit}
use Rattle.codec.specs.Le.{load, put, span, Bytes}
use Rattle.codec.specs.Tabulate.{tabulate}
use Rattle.codec.proofs.Le.{length-put, get_or-put-other, load-put, load-put-other}
use Rattle.codec.proofs.Tests.{cond_elim}
use Rattle.codec.proofs.Tabulate.{tab_none}
use Rattle.vector.specs.Vec.{zeros, width}
use Rattle.vector.specs.Entries.{load_vec}
use Rattle.protocol.specs.Record.{Setting}
use Rattle.protocol.specs.State.{no_page, closed, setup}
use Rattle.record.specs.RecordBytes.{record_at, message_at}
use Rattle.parts.specs.Node.{clock_in, heard_in, held_in, slot_at, store_in}
use Rattle.parts.specs.Channel.{front_in, wait_in, ring_at, queue_in}
use Rattle.parts.specs.Session.{mark_at, session_in}
use Rattle.table.specs.Parts.{table_length, place_of, session_of, site_of, node_of, channel_of}
use Rattle.table.specs.Decode.{setting_in, decode}
use Rattle.table.specs.Put.{fresh}
use Rattle.table.proofs.Parts.{Every, every-session, every-site, every_node, every_channel}
use Rattle.table.proofs.Bytes.{bytes-put}
use Rattle.table.proofs.KeptPlaces.{state_ext}

abbrev Zero : ℕ → Type 0
Zero x = x ≡ 0

-- ---- what zeros say

module _ (s : List ℕ) (blank : Every Zero s) where
  load_blank : (w j : ℕ) → load w s j ≡ 0
  unfolding load
  load_blank zero j = refl
  load_blank (suc w) j = omega (arith, blank j, load_blank w (suc j))

  vec_blank : (at : ℕ) → load_vec s at ≡ zeros
  unfolding load_vec
  vec_blank at = fun_ext (λ i. cond_elim (λ x. x ≡ 0) (ltb i width) (λ b. load_blank 8 (at + 8 * i)) (λ b. refl))

  clock_blank : clock_in s ≡ 0
  unfolding clock_in
  clock_blank = load_blank 8 0

  heard_blank : heard_in s ≡ zeros
  unfolding heard_in
  heard_blank = vec_blank 8

  store_blank : store_in s ≡ []
  unfolding store_in held_in
  store_blank = ap (λ n. tabulate n (λ k. record_at s (slot_at k))) (load_blank 1 40) ∙ tab_none (λ k. record_at s (slot_at k))

  queue_blank : queue_in s ≡ []
  unfolding queue_in wait_in
  queue_blank = ap (λ n. tabulate n (λ k. message_at s (ring_at (front_in s) k))) (load_blank 1 1) ∙ tab_none (λ k. message_at s (ring_at (front_in s) k))

  session_blank : session_in s ≡ closed
  unfolding session_in closed no_page
  session_blank =
      let marks = ap (λ n. tabulate n (mark_at s)) (load_blank 1 3) ∙ tab_none (mark_at s) in
      λ z.
      record {
        is_open = eqb (load_blank 1 0 z) 1;
        site = load_blank 1 1 z;
        vec = vec_blank 32 z;
        page = record { is_open = eqb (load_blank 1 2 z) 1; vec = vec_blank 64 z; marks = marks z; gathered = vec_blank 96 z };
      }

-- ---- a table of zeros with its setting put

module _ (t : List ℕ) (blank : Every Zero t) (l : length t ≡ table_length) (c : Setting) (h : c.sites < 256) (h' : c.partitions < 256) where
  length-set : length (put 1 (put 1 t 0 c.sites) 1 c.partitions) ≡ table_length
  length-set = length-put 1 (put 1 t 0 c.sites) 1 c.partitions ∙ length-put 1 t 0 c.sites ∙ l

  setting-set : setting_in (put 1 (put 1 t 0 c.sites) 1 c.partitions) ≡ c
  unfolding span
  setting-set =
      let sites = load-put-other 1 1 (put 1 t 0 c.sites) 1 c.partitions 0 (λ k u v x y. omega arith) ∙ load-put 1 t 0 c.sites (omega arith) h in
      let partitions = load-put 1 (put 1 t 0 c.sites) 1 c.partitions (omega (arith, length-put 1 t 0 c.sites)) h' in
      λ z. record { sites = sites z; partitions = partitions z }

  blank_set : (i : ℕ) → 2 ≤ i → get_or (put 1 (put 1 t 0 c.sites) 1 c.partitions) i 0 ≡ 0
  blank_set i b =
      get_or-put-other 1 (put 1 t 0 c.sites) 1 c.partitions i (λ u v. omega arith) ∙ get_or-put-other 1 t 0 c.sites i (λ u v. omega arith) ∙ blank i

  decode-set : decode (put 1 (put 1 t 0 c.sites) 1 c.partitions) ≡ setup c
  unfolding decode setup
  decode-set =
      let u = put 1 (put 1 t 0 c.sites) 1 c.partitions in
      let site : (m : ℕ) → Every Zero (site_of u m) = λ m. every-site Zero refl u m (λ i b. blank_set i (omega arith)) in
      let node : (m p : ℕ) → Every Zero (node_of (site_of u m) p) = λ m p. every_node Zero refl (site_of u m) p (site m) in
      let channel : (m p d : ℕ) → Every Zero (channel_of (site_of u m) p d) = λ m p d. every_channel Zero refl (site_of u m) p d (site m) in
      state_ext (decode u) (setup c)
      setting-set
      (λ m p. clock_blank (node_of (site_of u m) p) (node m p))
      (λ m p. heard_blank (node_of (site_of u m) p) (node m p))
      (λ m p. store_blank (node_of (site_of u m) p) (node m p))
      (λ i m p.
      cond_elim (λ q. q ≡ []) (ltb m 4 && not (eqb i m)) (λ b. queue_blank (channel_of (site_of u i) p (place_of i m)) (channel i p (place_of i m))) (λ b. refl))
      (λ s. session_blank (session_of u s) (every-session Zero refl u s (λ i b. blank_set i (omega arith))))

-- ---- a fresh table

blank_replicate : (n : ℕ) → Every Zero (replicate n 0)
blank_replicate n i = go (dec_lt i n)
  where
    go : Dec (i < n) → Zero (get_or (replicate n 0) i 0)
    go (yes b) = get_or-replicate n i 0 0 b
    go (no b) = get_or-eq_default (replicate n 0) 0 {n = i} (omega (arith, length-replicate {A = ℕ} n 0))

pub length-fresh : (c : Setting) → length (fresh c) ≡ table_length
unfolding fresh
length-fresh c = length-put 1 (put 1 (replicate table_length 0) 0 c.sites) 1 c.partitions ∙ length-put 1 (replicate table_length 0) 0 c.sites ∙ length-replicate {A = ℕ} table_length 0

pub decode-fresh : (c : Setting) → c.sites < 256 → c.partitions < 256 → decode (fresh c) ≡ setup c
unfolding fresh
decode-fresh c h h' = decode-set (replicate table_length 0) (blank_replicate table_length) (length-replicate {A = ℕ} table_length 0) c h h'

pub bytes-fresh : (c : Setting) → Bytes (fresh c)
unfolding fresh
bytes-fresh c =
    bytes-put 1 (put 1 (replicate table_length 0) 0 c.sites) 1 c.partitions
    (bytes-put 1 (replicate table_length 0) 0 c.sites (λ i. rw (blank_replicate table_length i) (Fits-lit tt)))
