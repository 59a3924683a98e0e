-- What a step changes fits a well-formed table. In order: the lists that a table says and its bytes' counts, a lawful change fits, many, and every
-- step (`step_fits`).
use Prim.Native.Nat.{ℕ, ◌+◌, ◌-◌, ◌≤◌, ◌<◌}
use native.Mathlib.Decide.{dec_lt}
use native.Mathlib.Omega.{arith}
use mathlib.Core.Path.{◌≡◌, sym, ap, subst}
use mathlib.Core.List.{List, [], ◌∷◌}
use lib.Dec.{T}
use lib.ListN.{length}
use borrow.Author.Tests.{lt-ltb, le-ltb, ne_eqb}
use Rattle.codec.specs.Le.{Bytes}
use Rattle.codec.proofs.Tabulate.{tab_length}
use Rattle.protocol.specs.Record.{Setting, Msg, Update, Heartbeat}
use Rattle.protocol.specs.Event.{Event}
use Rattle.protocol.specs.Change.{Change, SetSession, SetClock, Publish, Receive}
use Rattle.protocol.specs.Step.{step}
use Rattle.protocol.proofs.Times.{time-fits}
use Rattle.record.specs.RecordBytes.{message_at}
use Rattle.record.proofs.Ranges.{LawfulMsg, message_fits}
use Rattle.parts.specs.Channel.{ring_at, front_in, wait_in, queue_in}
use Rattle.parts.specs.Room.{Room}
use Rattle.table.specs.Parts.{Whole, place_of, site_of, node_of, channel_of}
use Rattle.table.specs.Decode.{setting_in, decode}
use Rattle.table.specs.Put.{put_change}
use Rattle.table.specs.Fits.{Keyed, Fits, FitsAll}
use Rattle.table.proofs.Parts.{whole_long, whole_still}
use Rattle.table.proofs.Bytes.{bytes-put_change}
use Rattle.table.proofs.Decode.{length-put_change, setting-put, decode-put}
use Rattle.table.proofs.Follows.{Kept, change_kept}
use Rattle.lawful.specs.WellFormed.{well_formed}
use Rattle.lawful.proofs.LawfulValues.{session-fits}
use Rattle.lawful.proofs.Facts.{formed, kept, store_length, says_lawful}
use Rattle.lawful.proofs.Served.{RoomIn, Lawful, LawfulAll, step_lawful}

-- ---- the lists that a table says, and its bytes' counts

-- each place below n - 1 is that of one of the n sites other than i
pub record Other (n i d : ℕ) : Type 0 where
  pub site : ℕ
  pub there : site < n
  pub other : site ≡ i → ⊥
  pub place : place_of i site ≡ d

pub other_at : (n i d : ℕ) → i < n → d < n - 1 → Other n i d
unfolding place_of
other_at n i d h g = go (dec_lt d i)
  where
    go : Dec (d < i) → Other n i d
    go (yes b) = record { site = d; there = omega arith; other = λ e. omega arith; place = rw (lt-ltb d i b) }
    go (no b) = record { site = d + 1; there = omega arith; other = λ e. omega arith; place = rw (le-ltb (d + 1) i (omega arith)) (omega arith) }

pub chan-length : (t : List ℕ) (i m p : ℕ) → m < 4 → (i ≡ m → ⊥) → length ((decode t).net.chan i m p) ≡ wait_in (channel_of (site_of t i) p (place_of i m))
unfolding decode queue_in
chan-length t i m p h d =
    let w = channel_of (site_of t i) p (place_of i m) in
    rw (lt-ltb m 4 h, ne_eqb i m d) (tab_length (wait_in w) (λ k. message_at w (ring_at (front_in w) k)))

room_for : (t : List ℕ) (m p : ℕ) (x : Msg) → RoomIn x ((decode t).net.store m p) → Room x (node_of (site_of t m) p)
room_for t m p (Update r) room = omega (arith, store_length t m p)
room_for t m p (Heartbeat s) room = tt

keyed : (c : Setting) (i p : ℕ) (x : Msg) → LawfulMsg c i p x → Keyed x
keyed c i p (Update r) ok = ok.1.key
keyed c i p (Heartbeat s) ok = tt

-- ---- changes

pub lawful_fits : (c : Change) (t : List ℕ) → Whole t → Kept t → (setting_in t).sites ≤ 4 → (setting_in t).partitions ≤ 4 → Bytes t → Lawful c (decode t) → Fits c t
unfolding decode
lawful_fits (SetSession s x) t l K few few' bytes ok = (ok.0, session-fits (setting_in t) x few ok.1)
lawful_fits (SetClock m p c) t l K few few' bytes ok = (omega (arith, ok.0), omega (arith, ok.1), time-fits c ok.2)
lawful_fits (Publish m p x) t l K few few' bytes ok = record {
  site = ok.site;
  sites = few;
  partition = omega (arith, ok.partition);
  msg = message_fits (setting_in t) m p x few ok.msg;
  room = room_for t m p x ok.room;
  ways = λ d h.
      let o = other_at (setting_in t).sites m d ok.site h in
      let e = chan-length t m o.site p (omega (arith, o.there)) (λ q. o.other (sym q)) in
      let f = ap (λ k. wait_in (channel_of (site_of t m) p k)) o.place in omega (arith, ok.ways o.site o.there o.other);
  key = keyed (setting_in t) m p x ok.msg;
  whole = l;
  kept = K m p (omega (arith, ok.site)) (omega (arith, ok.partition));
}
lawful_fits (Receive i m p x) t l K few few' bytes ok = record {
  source = omega (arith, ok.source);
  site = omega (arith, ok.site);
  other = ok.other;
  partition = omega (arith, ok.partition);
  msg = message_fits (setting_in t) i p x few ok.msg;
  room = room_for t m p x ok.room;
  waits = let e = chan-length t i m p (omega (arith, ok.site)) ok.other in omega (arith, ok.waits);
  bytes = bytes;
  key = keyed (setting_in t) i p x ok.msg;
  whole = l;
  kept = K m p (omega (arith, ok.site)) (omega (arith, ok.partition));
}

all_fit : (cs : List Change) (t : List ℕ) → Whole t → Kept t → (setting_in t).sites ≤ 4 → (setting_in t).partitions ≤ 4 → Bytes t → LawfulAll cs (decode t) → FitsAll cs t
all_fit [] t w K few few' bytes ok = tt
all_fit (c ∷ cs) t w K few few' bytes ok =
    let l = whole_long t w in
    let fit = lawful_fits c t w K few few' bytes ok.0 in
    let same = setting-put c t l fit in (
      fit,
      all_fit cs (put_change c t) (whole_still t (put_change c t) (length-put_change c t l fit) w) (change_kept c t w fit K) (subst (λ k. k.sites ≤ 4) (sym same) few) (subst (λ k. k.partitions ≤ 4) (sym same) few')
          (bytes-put_change c t bytes) (subst (LawfulAll cs) (sym (decode-put c t l fit)) ok.1),
    )

pub step_fits : (t : List ℕ) → Whole t → Bytes t → T (well_formed t) → (e : Event) → FitsAll (step (decode t) e).changes t
step_fits t l bytes w e =
    let F = formed t w in all_fit (step (decode t) e).changes t l (kept t l w) F.sites F.partitions bytes (step_lawful (decode t) (says_lawful t F bytes) e)
