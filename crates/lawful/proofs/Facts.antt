-- The facts of a well-formed table. In order: those of a session, a node, a channel, a node's kept places, and the table, each with the test that they follow
-- from and give back (`formed`, `kept`, `well_formed_lem`); then what the table says is lawful (`says_lawful`).
use Prim.Native.Nat.{ℕ, zero, suc, ◌+◌, ◌-◌, ◌≤◌, ◌<◌}
use native.Mathlib.Omega.{arith}
use mathlib.Core.Path.{◌≡◌, sym, ap, ap₂, ◌∙◌}
use mathlib.Core.Bool.{Bool, true, false, cond, not, ◌&&◌}
use mathlib.Core.List.Memᴰ
use mathlib.Core.List.{List, [], ◌∷◌}
use lib.Dec.{T, leb, ltb, eqb}
use lib.ListN.{length, get_or}
use mir.Syntax.{w8}
use mir.Val.{Fits}
use mir.Facts.{Fits-lit, and_yes, yes_and, ltb_yes, leb_yes, eqb_yes, eqb_no, yes_ltb, yes_leb}
use Rattle.codec.specs.Le.{load, span, Bytes}
use Rattle.codec.specs.Below.{all_below}
use Rattle.codec.specs.Tabulate.{tabulate}
use Rattle.codec.proofs.Le.{load_lt, load_byte}
use Rattle.codec.proofs.Tests.{cond_elim, yes_eqb, every_yes, yes_every, every_both, every-joined}
use Rattle.codec.proofs.Below.{all_below-at, all_below_lem}
use Rattle.codec.proofs.Tabulate.{tab_length, tab_each}
use Rattle.vector.proofs.Entries.{load_vec-beyond}
use Rattle.protocol.specs.Record.{Setting, Rec, Msg}
use Rattle.protocol.specs.State.{Mark}
use Rattle.protocol.specs.Past.{◌∈◌}
use Rattle.protocol.specs.Times.{time_limit}
use Rattle.record.specs.RecordBytes.{record_at, message_at}
use Rattle.record.specs.Ranges.{time_lawful, vec_lawful}
use Rattle.record.specs.RecordFormed.{record_formed, message_formed}
use Rattle.record.proofs.Ranges.{LawfulVec, vec_facts, LawfulRec, LawfulMsg}
use Rattle.record.proofs.RecordFormed.{message_read, record_read}
use Rattle.parts.specs.Node.{slot_at, clock_in, heard_in, held_in, store_in}
use Rattle.parts.specs.Channel.{ring_at, front_in, wait_in, queue_in}
use Rattle.parts.specs.Session.{mark_at, session_in}
use Rattle.parts.specs.Fits.{FitsMarks}
use Rattle.search.specs.Kept.{place_in, places_in}
use Rattle.search.proofs.Kept.{held_length, places_at, places_are}
use Rattle.table.specs.Parts.{Whole, place_of, session_of, site_of, node_of, channel_of, kept_of}
use Rattle.table.specs.Decode.{setting_in, decode}
use Rattle.table.proofs.Parts.{every-session}
use Rattle.table.proofs.Changes.{place-lt}
use Rattle.table.proofs.KeptPlaces.{length-kept}
use Rattle.table.proofs.Follows.{Kept}
use Rattle.lawful.specs.LawfulValues.{setting_lawful, session_lawful}
use Rattle.lawful.specs.WellFormed.{flags_at, session_formed, node_formed, channel_formed, site_formed, kept_formed, well_formed}
use Rattle.lawful.proofs.LawfulValues.{page_facts, LawfulSession, session_facts, LawfulState}

-- ---- a session

pub record SessionFacts (c : Setting) (b : List ℕ) : Type 0 where
  pub is_open : load 1 b 0 < 2
  pub paged : load 1 b 2 < 2
  pub marks : (i : ℕ) → i < 8 → load 1 b (16 + i) < 2
  pub lawful : T (session_lawful c (session_in b))

module _ (c : Setting) (b : List ℕ) where
  session_facts_of : T (session_formed c b) → SessionFacts c b
  unfolding session_formed flags_at
  session_facts_of t =
      let (is_open, (paged, (marks, (lawful, _)))) = every_yes _ t in
      record {
        is_open = ltb_yes is_open;
        paged = ltb_yes paged;
        marks = λ i h. ltb_yes (all_below-at 8 (λ i. ltb (load 1 b (16 + i)) 2) marks i h);
        lawful = lawful;
      }

  session_formed_lem : SessionFacts c b → T (session_formed c b)
  unfolding session_formed flags_at
  session_formed_lem F =
      let marks = all_below_lem 8 (λ i. ltb (load 1 b (16 + i)) 2) (λ i h. yes_ltb (F.marks i h)) in
      yes_every _ (yes_ltb F.is_open, (yes_ltb F.paged, (marks, (F.lawful, tt))))

-- ---- a node

pub record NodeFacts (c : Setting) (m p : ℕ) (n : List ℕ) : Type 0 where
  pub clock : T (time_lawful (clock_in n))
  pub heard : T (vec_lawful c (heard_in n))
  pub held : held_in n ≤ cond (ltb m c.sites && ltb p c.partitions) 32 0
  pub slots : (k : ℕ) → k < held_in n → T (record_formed c p n (slot_at k))

module _ (c : Setting) (m p : ℕ) (n : List ℕ) where
  node_facts : T (node_formed c m p n) → NodeFacts c m p n
  unfolding node_formed
  node_facts t =
      let (clock, (heard, (held, (slots, _)))) = every_yes _ t in
      record { clock = clock; heard = heard; held = leb_yes held; slots = all_below-at (held_in n) (λ k. record_formed c p n (slot_at k)) slots }

  node_formed_lem : NodeFacts c m p n → T (node_formed c m p n)
  unfolding node_formed
  node_formed_lem F =
      yes_every _ (F.clock, (F.heard, (yes_leb F.held, (all_below_lem (held_in n) (λ k. record_formed c p n (slot_at k)) F.slots, tt))))

-- ---- a channel

pub record ChannelFacts (c : Setting) (i p d : ℕ) (b : List ℕ) : Type 0 where
  pub wait : wait_in b ≤ cond ((ltb i c.sites && ltb p c.partitions) && ltb d (c.sites - 1)) 8 0
  pub ring : (k : ℕ) → k < wait_in b → T (message_formed c i p b (ring_at (front_in b) k))

module _ (c : Setting) (i p d : ℕ) (b : List ℕ) where
  abbrev most_waiting : ℕ
  most_waiting = cond ((ltb i c.sites && ltb p c.partitions) && ltb d (c.sites - 1)) 8 0

  channel_facts : T (channel_formed c i p d b) → ChannelFacts c i p d b
  unfolding channel_formed
  channel_facts t =
      let all = and_yes (leb (wait_in b) most_waiting) (all_below (wait_in b) (λ k. message_formed c i p b (ring_at (front_in b) k))) t in
      record { wait = leb_yes all.0; ring = all_below-at (wait_in b) (λ k. message_formed c i p b (ring_at (front_in b) k)) all.1 }

  channel_formed_lem : ChannelFacts c i p d b → T (channel_formed c i p d b)
  unfolding channel_formed
  channel_formed_lem F =
      yes_and (leb (wait_in b) most_waiting) (all_below (wait_in b) (λ k. message_formed c i p b (ring_at (front_in b) k))) (yes_leb F.wait)
      (all_below_lem (wait_in b) (λ k. message_formed c i p b (ring_at (front_in b) k)) F.ring)

-- ---- a site

module _ (c : Setting) (m : ℕ) (site : List ℕ) where
  abbrev channels : ℕ → Bool
  channels p = all_below 3 (λ d. channel_formed c m p d (channel_of site p d))

  site_facts : T (site_formed c m site) → (p : ℕ) → p < 4 → NodeFacts c m p (node_of site p) × ((d : ℕ) → d < 3 → ChannelFacts c m p d (channel_of site p d))
  unfolding site_formed
  site_facts t p h =
      let both = and_yes (node_formed c m p (node_of site p)) (channels p) (all_below-at 4 (λ p. node_formed c m p (node_of site p) && channels p) t p h) in (
        node_facts c m p (node_of site p) both.0,
        λ d g. channel_facts c m p d (channel_of site p d) (all_below-at 3 (λ d. channel_formed c m p d (channel_of site p d)) both.1 d g),
      )

  site_formed_lem : ((p : ℕ) → p < 4 → NodeFacts c m p (node_of site p)) → ((p d : ℕ) → p < 4 → d < 3 → ChannelFacts c m p d (channel_of site p d)) → T (site_formed c m site)
  unfolding site_formed
  site_formed_lem node channel =
      all_below_lem 4 (λ p. node_formed c m p (node_of site p) && channels p)
      (λ p h.
      yes_and (node_formed c m p (node_of site p)) (channels p) (node_formed_lem c m p (node_of site p) (node p h))
      (all_below_lem 3 (λ d. channel_formed c m p d (channel_of site p d)) (λ d g. channel_formed_lem c m p d (channel_of site p d) (channel p d h g))))

-- ---- a node's kept places

pub kept_facts : (c : Setting) (n s : List ℕ) → length s ≡ 64 → T (kept_formed c n s) → s ≡ places_in c n
unfolding kept_formed
kept_facts c n s l t =
    places_are c n s l (λ k h. sym (load_byte s k) ∙ eqb_yes (all_below-at 64 (λ k. eqb (load 1 s k) (place_in c n k)) t k h))

kept_formed_lem : (c : Setting) (n s : List ℕ) → s ≡ places_in c n → T (kept_formed c n s)
unfolding kept_formed
kept_formed_lem c n s e =
    all_below_lem 64 (λ k. eqb (load 1 s k) (place_in c n k))
    (λ k h. yes_eqb (load 1 s k) (place_in c n k) (load_byte s k ∙ ap (λ (l : List ℕ). get_or l k 0) e ∙ places_at c n k h))

-- ---- the table, but for its kept places

pub record Formed (t : List ℕ) : Type 0 where
  pub site : 0 < (setting_in t).sites
  pub sites : (setting_in t).sites ≤ 4
  pub partition : 0 < (setting_in t).partitions
  pub partitions : (setting_in t).partitions ≤ 4
  pub session : (s : ℕ) → s < 16 → SessionFacts (setting_in t) (session_of t s)
  pub node : (m p : ℕ) → m < 4 → p < 4 → NodeFacts (setting_in t) m p (node_of (site_of t m) p)
  pub channel : (m p d : ℕ) → m < 4 → p < 4 → d < 3 → ChannelFacts (setting_in t) m p d (channel_of (site_of t m) p d)

pub setting_facts : (c : Setting) → T (setting_lawful c) → (0 < c.sites) × (c.sites ≤ 4) × (0 < c.partitions) × (c.partitions ≤ 4)
unfolding setting_lawful
setting_facts c t =
    let (site, (sites, (partition, (partitions, _)))) = every_yes _ t in (ltb_yes site, leb_yes sites, ltb_yes partition, leb_yes partitions)

pub setting_lawful_lem : (c : Setting) → 0 < c.sites → c.sites ≤ 4 → 0 < c.partitions → c.partitions ≤ 4 → T (setting_lawful c)
unfolding setting_lawful
setting_lawful_lem c a b d e = yes_every _ (yes_ltb a, (yes_leb b, (yes_ltb d, (yes_leb e, tt))))

-- the numbers tested one after the other
pub setting_tests : (m n : ℕ) → ((ltb 0 m && leb m 4) && (ltb 0 n && leb n 4)) ≡ setting_lawful (record { sites = m; partitions = n })
unfolding setting_lawful
setting_tests m n =
    let first = ltb 0 m ∷ leb m 4 ∷ [] in
    let second = ltb 0 n ∷ leb n 4 ∷ [] in
    ap₂ ◌&&◌ (sym (every-joined first)) (sym (every-joined second)) ∙ every_both first second

module _ (t : List ℕ) where
  pub formed : T (well_formed t) → Formed t
  unfolding well_formed
  formed w =
      let c = setting_in t in
      let (setting, (sessions, (sites, (_, _)))) = every_yes _ w in
      let fixed = setting_facts c setting in
      let site : (m : ℕ) → m < 4 → T (site_formed c m (site_of t m)) = all_below-at 4 (λ m. site_formed c m (site_of t m)) sites in
      record {
        site = fixed.0;
        sites = fixed.1;
        partition = fixed.2;
        partitions = fixed.3;
        session = λ s h. session_facts_of c (session_of t s) (all_below-at 16 (λ s. session_formed c (session_of t s)) sessions s h);
        node = λ m p h g. (site_facts c m (site_of t m) (site m h) p g).0;
        channel = λ m p d h g. (site_facts c m (site_of t m) (site m h) p g).1 d;
      }

  pub kept : Whole t → T (well_formed t) → Kept t
  unfolding well_formed
  kept l w m p h g =
      let c = setting_in t in
      let (_, (_, (_, (all, _)))) = every_yes _ w in
      let here = all_below-at 4 (λ p. kept_formed c (node_of (site_of t m) p) (kept_of t m p)) (all_below-at 4 (λ m. all_below 4 (λ p. kept_formed c (node_of (site_of t m) p) (kept_of t m p))) all m h) p g in
      kept_facts c (node_of (site_of t m) p) (kept_of t m p) (length-kept t m p l h g) here

  pub well_formed_lem : Formed t → Kept t → T (well_formed t)
  unfolding well_formed
  well_formed_lem F K =
      let c = setting_in t in
      let sessions = all_below_lem 16 (λ s. session_formed c (session_of t s)) (λ s h. session_formed_lem c (session_of t s) (F.session s h)) in
      let sites = all_below_lem 4 (λ m. site_formed c m (site_of t m)) (λ m h. site_formed_lem c m (site_of t m) (λ p. F.node m p h) (λ p d. F.channel m p d h)) in
      let places =
      all_below_lem 4 (λ m. all_below 4 (λ p. kept_formed c (node_of (site_of t m) p) (kept_of t m p)))
      (λ m h.
      all_below_lem 4 (λ p. kept_formed c (node_of (site_of t m) p) (kept_of t m p)) (λ p g. kept_formed_lem c (node_of (site_of t m) p) (kept_of t m p) (K m p h g))) in
      yes_every _ (setting_lawful_lem c F.site F.sites F.partition F.partitions, (sessions, (sites, (places, tt))))

-- ---- what a table says is lawful

marks-read : (n : ℕ) (f : ℕ → Mark) → ((i : ℕ) → (f i).key < 256) → FitsMarks (tabulate n f)
unfolding tabulate
marks-read zero f h = tt
marks-read (suc n) f h = (h 0, marks-read n (λ i. f (suc i)) (λ i. h (suc i)))

session-read : (c : Setting) (b : List ℕ) → Bytes b → T (session_lawful c (session_in b)) → LawfulSession c (session_in b)
unfolding session_in mark_at span
session-read c b bytes t =
    session_facts c (session_in b) t (load_lt 1 b 1 bytes) (load_vec-beyond b 32)
    (λ g. page_facts c (session_in b).page g (marks-read (load 1 b 3) (mark_at b) (λ i. load_lt 1 b (8 + i) bytes)) (load_vec-beyond b 64) (load_vec-beyond b 96))

cond-le : (b : Bool) (k n : ℕ) → n ≤ cond b k 0 → n ≤ k
cond-le true k n h = h
cond-le false k n h = omega arith

pub store_length : (t : List ℕ) (m p : ℕ) → length ((decode t).net.store m p) ≡ held_in (node_of (site_of t m) p)
unfolding decode
store_length t m p = held_length (node_of (site_of t m) p)

module _ (t : List ℕ) (F : Formed t) where
  session_said : Bytes t → (s : ℕ) → s < 16 → LawfulSession (setting_in t) ((decode t).session s)
  unfolding decode
  session_said bytes s h =
      session-read (setting_in t) (session_of t s) (every-session (Fits w8) (Fits-lit tt) t s (λ i b. bytes i)) (F.session s h).lawful

  module _ (m p : ℕ) (h : m < 4) (g : p < 4) where
    clock_said : (decode t).net.clock m p < time_limit
    unfolding decode time_lawful
    clock_said = ltb_yes (F.node m p h g).clock

    heard_said : LawfulVec (setting_in t) ((decode t).net.heard m p)
    unfolding decode heard_in
    heard_said = vec_facts (setting_in t) (heard_in (node_of (site_of t m) p)) (F.node m p h g).heard (load_vec-beyond (node_of (site_of t m) p) 8)

    store_most : length ((decode t).net.store m p) ≤ 32
    store_most =
        omega (arith, store_length t m p, cond-le (ltb m (setting_in t).sites && ltb p (setting_in t).partitions) 32 (held_in (node_of (site_of t m) p)) (F.node m p h g).held)

    store_said : (r : Rec) → r ∈ (decode t).net.store m p → LawfulRec (setting_in t) p r
    unfolding decode store_in
    store_said =
        let n = node_of (site_of t m) p in
        tab_each (LawfulRec (setting_in t) p) (held_in n) (λ k. record_at n (slot_at k)) (λ k b. record_read (setting_in t) p n (slot_at k) ((F.node m p h g).slots k b))

  -- there is a channel from i to m, or nothing waits
  module _ (i m p : ℕ) (h : i < 4) (g : p < 4) where
    way : (P : List Msg → Type 0) → P [] → ((d : ℕ) → d < 3 → P (queue_in (channel_of (site_of t i) p d))) → P ((decode t).net.chan i m p)
    unfolding decode
    way P none some =
        cond_elim P (ltb m 4 && not (eqb i m))
        (λ b.
        let both = and_yes (ltb m 4) (not (eqb i m)) b in
        some (place_of i m) (place-lt 4 i m h (ltb_yes both.0) (eqb_no both.1))) (λ b. none)

    chan_most : length ((decode t).net.chan i m p) ≤ 8
    unfolding queue_in
    chan_most =
        way (λ q. length q ≤ 8) (omega arith)
        (λ d b.
        let w = channel_of (site_of t i) p d in
        let c = setting_in t in
        omega (arith, tab_length (wait_in w) (λ k. message_at w (ring_at (front_in w) k)), cond-le ((ltb i c.sites && ltb p c.partitions) && ltb d (c.sites - 1)) 8 (wait_in w) (F.channel i p d h g b).wait))

    chan_said : (x : Msg) → x ∈ (decode t).net.chan i m p → LawfulMsg (setting_in t) i p x
    unfolding queue_in
    chan_said =
        way (λ q. (x : Msg) → x ∈ q → LawfulMsg (setting_in t) i p x) (λ x k. absurd (Memᴰ.not-nil k))
        (λ d b.
        let w = channel_of (site_of t i) p d in
        tab_each (LawfulMsg (setting_in t) i p) (wait_in w) (λ k. message_at w (ring_at (front_in w) k)) (λ k l. message_read (setting_in t) i p w (ring_at (front_in w) k) ((F.channel i p d h g b).ring k l)))

  pub says_lawful : Bytes t → LawfulState (decode t)
  unfolding decode
  says_lawful bytes = record {
    sites = F.sites;
    partition = F.partition;
    partitions = F.partitions;
    session = session_said bytes;
    clock = clock_said;
    heard = heard_said;
    store = store_said;
    held = store_most;
    chan = chan_said;
    wait = chan_most;
  }
