-- A fresh table of a lawful setting is well formed: it says what a setup holds, and its flags are 0. `replicate` stays shut: only that all of its
-- elements are 0 is used.
use Prim.Native.Nat.{ℕ, ◌+◌, ◌≤◌, ◌<◌}
use native.Mathlib.Decide.{dec_lt}
use native.Mathlib.Omega.{arith}
use mathlib.Core.Path.{◌≡◌, refl, sym, ap, subst, ◌∙◌}
use mathlib.Core.List.{List}
use lib.Dec.{T}
use lib.ListN.{length, get_or, replicate, length-replicate, get_or-replicate, get_or-eq_default}
use Rattle.codec.specs.Le.{load, put}
use Rattle.codec.proofs.Le.{get_or-put-other}
use Rattle.codec.proofs.Part.{get_d_part}
use Rattle.vector.specs.Vec.{zeros}
use Rattle.protocol.specs.Record.{Setting}
use Rattle.protocol.specs.State.{closed, setup}
use Rattle.record.specs.Ranges.{time_lawful}
use Rattle.record.proofs.Ranges.{zeros_lawful, vec_lawful_lem}
use Rattle.parts.specs.Node.{clock_in, heard_in, held_in}
use Rattle.parts.specs.Channel.{wait_in}
use Rattle.parts.specs.Session.{session_in}
use Rattle.search.proofs.Kept.{place_held, places_are}
use Rattle.table.specs.Parts.{table_length, kept_at, session_of, site_of, node_of, channel_of, kept_of}
use Rattle.table.specs.Decode.{setting_in, decode}
use Rattle.table.specs.Put.{fresh}
use Rattle.table.proofs.Parts.{every-session}
use Rattle.table.proofs.KeptPlaces.{kept_is, length-kept}
use Rattle.table.proofs.Follows.{Kept}
use Rattle.table.proofs.Fresh.{length-fresh, decode-fresh}
use Rattle.lawful.specs.LawfulValues.{setting_lawful, session_lawful}
use Rattle.lawful.specs.WellFormed.{well_formed}
use Rattle.lawful.proofs.LawfulValues.{session_lawful_lem}
use Rattle.lawful.proofs.Facts.{NodeFacts, ChannelFacts, setting_facts, well_formed_lem, store_length}
use Rattle.lawful.proofs.Served.{closed_lawful}
use Rattle.lawful.proofs.Fits.{other_at, chan-length}

-- ---- its bytes

abbrev Zero : ℕ → Type 0
Zero x = x ≡ 0

blank_replicate : (n i : ℕ) → Zero (get_or (replicate n 0) i 0)
blank_replicate n i = go (dec_lt i n)
  where
    go : Dec (i < n) → Zero (get_or (replicate n 0) i 0)
    go (yes b) = get_or-replicate n i 0 0 b
    go (no b) = get_or-eq_default (replicate n 0) 0 {n = i} (omega (arith, length-replicate {A = ℕ} n 0))

blank_fresh : (c : Setting) (i : ℕ) → 2 ≤ i → Zero (get_or (fresh c) i 0)
unfolding fresh
blank_fresh c i h =
    let t : List ℕ = replicate table_length 0 in
    get_or-put-other 1 (put 1 t 0 c.sites) 1 c.partitions i (λ a b. omega arith) ∙ get_or-put-other 1 t 0 c.sites i (λ a b. omega arith) ∙ blank_replicate table_length i

session_blank : (c : Setting) (s j : ℕ) → load 1 (session_of (fresh c) s) j < 2
unfolding load
session_blank c s j = omega (arith, every-session Zero refl (fresh c) s (λ i h. blank_fresh c i (omega arith)) j)

-- ---- what it says

module _ (c t : Setting) (u : List ℕ) (says : decode u ≡ setup c) where
  session-setup : (s : ℕ) → session_in (session_of u s) ≡ closed
  unfolding decode setup
  session-setup s = ap (λ S. S.session s) says

  held_setup : (m p : ℕ) → held_in (node_of (site_of u m) p) ≡ 0
  unfolding setup
  held_setup m p = sym (store_length u m p) ∙ ap (λ S. length (S.net.store m p)) says

  node_setup : (m p : ℕ) → NodeFacts t m p (node_of (site_of u m) p)
  unfolding decode setup time_lawful
  node_setup m p =
      let clock : clock_in (node_of (site_of u m) p) ≡ 0 = ap (λ S. S.net.clock m p) says in
      let heard : heard_in (node_of (site_of u m) p) ≡ zeros = ap (λ S. S.net.heard m p) says in
      let held = held_setup m p in
      record {
        clock = rw clock tt;
        heard = rw heard (vec_lawful_lem t zeros (zeros_lawful t));
        held = omega arith;
        slots = λ k h. absurd (omega arith);
      }

  channel_setup : (m p d : ℕ) → m < 4 → d < 3 → ChannelFacts t m p d (channel_of (site_of u m) p d)
  unfolding setup
  channel_setup m p d h g =
      let o = other_at 4 m d h g in
      let e = chan-length u m o.site p o.there (λ q. o.other (sym q)) in
      let f = ap (λ k. wait_in (channel_of (site_of u m) p k)) o.place in
      let none : length ((decode u).net.chan m o.site p) ≡ 0 = ap (λ S. length (S.net.chan m o.site p)) says in
      record { wait = omega arith; ring = λ k l. absurd (omega arith) }

-- nothing is held, and nothing is kept
kept_fresh : (c : Setting) → decode (fresh c) ≡ setup c → Kept (fresh c)
kept_fresh c says m p h g =
    let t = fresh c in
    let n = node_of (site_of t m) p in
    let held = held_setup c c t says m p in
    places_are (setting_in t) n (kept_of t m p) (length-kept t m p (omega (arith, length-fresh c)) h g)
    (λ k b.
    rw (kept_is t m p h g)
    (get_d_part (kept_at m p) 64 t k b ∙ blank_fresh c (kept_at m p + k) (omega arith) ∙ omega (arith, held, place_held (setting_in t) n k)))

pub fresh_formed : (c : Setting) → T (setting_lawful c) → T (well_formed (fresh c))
unfolding decode setup
fresh_formed c ok =
    let fixed = setting_facts c ok in
    let says = decode-fresh c (omega arith) (omega arith) in
    let same : setting_in (fresh c) ≡ c = ap (λ S. S.net.setting) says in
    let t = setting_in (fresh c) in
    well_formed_lem (fresh c)
    (record {
      site = subst (λ k. 0 < k.sites) (sym same) fixed.0;
      sites = subst (λ k. k.sites ≤ 4) (sym same) fixed.1;
      partition = subst (λ k. 0 < k.partitions) (sym same) fixed.2;
      partitions = subst (λ k. k.partitions ≤ 4) (sym same) fixed.3;
      session = λ s h.
          record {
            is_open = session_blank c s 0;
            paged = session_blank c s 2;
            marks = λ i g. session_blank c s (16 + i);
            lawful = subst (λ x. T (session_lawful t x)) (sym (session-setup c t (fresh c) says s)) (session_lawful_lem t closed (closed_lawful t));
          };
      node = λ m p h g. node_setup c t (fresh c) says m p;
      channel = λ m p d h g k. channel_setup c t (fresh c) says m p d h k;
    })
    (kept_fresh c says)
