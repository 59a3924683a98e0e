-- Lawful vectors, levels, records and messages as facts. For each kind: the facts, how they follow from the test and give it back, and that the value fits
-- its bytes. A vector's facts say more than the test: it has no entry beyond the sites, at any number; a vector that was read from bytes has none.
use Prim.Native.Nat.{ℕ, ◌≤◌, ◌<◌}
use native.Mathlib.Decide.{dec_lt}
use native.Mathlib.Omega.{arith}
use mathlib.Core.Path.{◌≡◌, refl}
use mathlib.Core.Bool.{cond}
use lib.Dec.{T, ltb, eqb}
use lib.IntN.{ℤ, pos, negsuc}
use mir.Facts.{and_yes, yes_and, ltb_yes, ltb_no, leb_yes, eqb_yes, yes_ltb, yes_eqb}
use borrow.Author.Tests.{lt-ltb, le-ltb}
use Rattle.codec.specs.Level.{FitsLevel}
use Rattle.codec.proofs.Tests.{cond_elim, every_yes, yes_every}
use Rattle.codec.proofs.Below.{all_below-at, all_below_lem}
use Rattle.vector.specs.Vec.{Vec, width, zeros, with_entry, at_least, larger, raised}
use Rattle.vector.proofs.Entries.{Narrow}
use Rattle.protocol.specs.Record.{Setting, partition_of, Rec, Msg, Update, Heartbeat, stamp_in}
use Rattle.protocol.specs.Times.{top_of}
use Rattle.protocol.specs.Needs.{level_lawful}
use Rattle.protocol.proofs.Times.{stamp-fits, time-below_top}
use Rattle.record.specs.Fits.{FitsVec, FitsRec, FitsMsg}
use Rattle.record.specs.Ranges.{record_in_range, stamp_lawful, vec_lawful, record_lawful, message_lawful}

-- ---- vectors

pub record LawfulVec (c : Setting) (v : Vec) : Type 0 where
  pub below : (i : ℕ) → v i < top_of c
  pub beyond : (i : ℕ) → c.sites ≤ i → v i ≡ 0

entry_facts : (c : Setting) (i x : ℕ) → T (cond (ltb i c.sites) (stamp_lawful c x) (eqb x 0)) → (x < top_of c) × (c.sites ≤ i → x ≡ 0)
unfolding stamp_lawful
entry_facts c i x t = go (dec_lt i c.sites)
  where
    go : Dec (i < c.sites) → (x < top_of c) × (c.sites ≤ i → x ≡ 0)
    go (yes l) = (ltb_yes (rw (lt-ltb i c.sites l) at t), λ h. absurd (omega arith))
    go (no l) = let e : x ≡ 0 = eqb_yes (rw (le-ltb i c.sites (omega arith)) at t) in (omega (arith, time-below_top c), λ h. e)

pub vec_facts : (c : Setting) (v : Vec) → T (vec_lawful c v) → Narrow v → LawfulVec c v
unfolding vec_lawful
vec_facts c v t short = record { below = λ i. (facts i).0; beyond = λ i. (facts i).1 }
  where
    facts : (i : ℕ) → (v i < top_of c) × (c.sites ≤ i → v i ≡ 0)
    facts i = go (dec_lt i width)
      where
        go : Dec (i < width) → (v i < top_of c) × (c.sites ≤ i → v i ≡ 0)
        go (yes l) = entry_facts c i (v i) (all_below-at width (λ j. cond (ltb j c.sites) (stamp_lawful c (v j)) (eqb (v j) 0)) t i l)
        go (no l) = let e = short i (omega arith) in (omega (arith, time-below_top c), λ h. e)

pub vec_lawful_lem : (c : Setting) (v : Vec) → LawfulVec c v → T (vec_lawful c v)
unfolding vec_lawful stamp_lawful
vec_lawful_lem c v ok =
    all_below_lem width (λ i. cond (ltb i c.sites) (stamp_lawful c (v i)) (eqb (v i) 0))
    (λ i l. cond_elim T (ltb i c.sites) (λ h. yes_ltb (ok.below i)) (λ h. yes_eqb (ok.beyond i (ltb_no h))))

pub vec-fits : (c : Setting) (v : Vec) → c.sites ≤ 4 → LawfulVec c v → FitsVec v
vec-fits c v few ok = record { below = λ i. stamp-fits c (v i) (ok.below i); beyond = λ i h. ok.beyond i (omega arith) }

module _ (c : Setting) where
  pub zeros_lawful : LawfulVec c zeros
  zeros_lawful = record { below = λ i. omega (arith, time-below_top c); beyond = λ i h. refl }

  pub larger_lawful : (v w : Vec) → LawfulVec c v → LawfulVec c w → LawfulVec c (larger v w)
  unfolding larger
  larger_lawful v w ok ok' = record { below = λ i. omega (arith, ok.below i, ok'.below i); beyond = λ i h. omega (arith, ok.beyond i h, ok'.beyond i h) }

  module _ (v : Vec) (m t : ℕ) (ok : LawfulVec c v) (h : m < c.sites) (b : t < top_of c) where
    pub with_entry_lawful : LawfulVec c (with_entry v m t)
    unfolding with_entry
    with_entry_lawful = record {
      below = λ i. cond_elim (λ x. x < top_of c) (eqb i m) (λ e. b) (λ e. ok.below i);
      beyond = λ i g. cond_elim (λ x. x ≡ 0) (eqb i m) (λ e. let q : i ≡ m = eqb_yes e in absurd (omega arith)) (λ e. ok.beyond i g);
    }

    pub at_least_lawful : LawfulVec c (at_least v m t)
    unfolding at_least
    at_least_lawful = record {
      below = λ i. cond_elim (λ x. x < top_of c) (eqb i m) (λ e. omega (arith, ok.below i)) (λ e. ok.below i);
      beyond = λ i g. cond_elim (λ x. x ≡ 0) (eqb i m) (λ e. let q : i ≡ m = eqb_yes e in absurd (omega arith)) (λ e. ok.beyond i g);
    }

  pub raised_lawful : (v w : Vec) (m t : ℕ) → LawfulVec c v → LawfulVec c w → m < c.sites → t < top_of c → LawfulVec c (raised v w m t)
  unfolding raised
  raised_lawful v w m t ok ok' h b = at_least_lawful (larger v w) m t (larger_lawful v w ok ok') h b

-- ---- levels

pub level-fits : (z : ℤ) → T (level_lawful z) → FitsLevel z
unfolding level_lawful FitsLevel
level-fits (pos n) t = let h : n ≤ 1000000 = leb_yes t in omega arith
level-fits (negsuc n) t = let h : n < 50000 = ltb_yes t in omega arith

-- ---- records

pub record LawfulRec (c : Setting) (p : ℕ) (r : Rec) : Type 0 where
  pub key : r.id.key < 64
  pub partition : partition_of c r.id.key ≡ p
  pub source : r.id.source < c.sites
  pub quality : r.quality < 3
  pub level : T (level_lawful r.level)
  pub stamp : r.id.stamp < top_of c
  pub carried : LawfulVec c r.carried

module _ (c : Setting) (p : ℕ) (r : Rec) where
  pub record_facts : T (record_lawful c p r) → Narrow r.carried → LawfulRec c p r
  unfolding record_lawful record_in_range stamp_lawful
  record_facts t short =
      let both = and_yes (eqb (partition_of c r.id.key) p) (record_in_range c r) t in
      let (key, (source, (quality, (level, (stamp, (carried, _)))))) = every_yes _ both.1 in
      record {
        key = ltb_yes key;
        partition = eqb_yes both.0;
        source = ltb_yes source;
        quality = ltb_yes quality;
        level = level;
        stamp = ltb_yes stamp;
        carried = vec_facts c r.carried carried short;
      }

  pub record_lawful_lem : LawfulRec c p r → T (record_lawful c p r)
  unfolding record_lawful record_in_range stamp_lawful
  record_lawful_lem R =
      yes_and (eqb (partition_of c r.id.key) p) (record_in_range c r) (yes_eqb R.partition)
      (yes_every _
      (yes_ltb R.key, (yes_ltb R.source, (yes_ltb R.quality, (R.level, (yes_ltb R.stamp, (vec_lawful_lem c r.carried R.carried, tt)))))))

  pub record_fits : c.sites ≤ 4 → LawfulRec c p r → FitsRec r
  record_fits few R = record {
    key = omega (arith, R.key);
    source = omega (arith, R.source);
    stamp = stamp-fits c r.id.stamp R.stamp;
    quality = omega (arith, R.quality);
    level = level-fits r.level R.level;
    carried = vec-fits c r.carried few R.carried;
  }

-- ---- messages of the channel from site i at partition p

abbrev pub LawfulMsg : Setting → (i p : ℕ) → Msg → Type 0
LawfulMsg c i p (Update r) = (r.id.source ≡ i) × LawfulRec c p r
LawfulMsg c i p (Heartbeat t) = t < top_of c

-- the vector that a message carries, if it does, has no entry beyond the width
abbrev pub NarrowMsg : Msg → Type 0
NarrowMsg (Update r) = Narrow r.carried
NarrowMsg (Heartbeat t) = Unit {0}

module _ (c : Setting) (i p : ℕ) where
  pub message_facts : (x : Msg) → T (message_lawful c i p x) → NarrowMsg x → LawfulMsg c i p x
  unfolding message_lawful stamp_lawful
  message_facts (Update r) t short =
      let a = and_yes (eqb r.id.source i) (record_lawful c p r) t in (eqb_yes a.0, record_facts c p r a.1 short)
  message_facts (Heartbeat s) t short = ltb_yes t

  pub message_lawful_lem : (x : Msg) → LawfulMsg c i p x → T (message_lawful c i p x)
  unfolding message_lawful stamp_lawful
  message_lawful_lem (Update r) X = yes_and (eqb r.id.source i) (record_lawful c p r) (yes_eqb X.0) (record_lawful_lem c p r X.1)
  message_lawful_lem (Heartbeat s) X = yes_ltb X

  pub message_fits : (x : Msg) → c.sites ≤ 4 → LawfulMsg c i p x → FitsMsg x
  message_fits (Update r) few X = record_fits c p r few X.1
  message_fits (Heartbeat s) few X = stamp-fits c s X

  pub stamp_lawful_lem : (x : Msg) → LawfulMsg c i p x → stamp_in x < top_of c
  unfolding stamp_in
  stamp_lawful_lem (Update r) X = X.1.stamp
  stamp_lawful_lem (Heartbeat s) X = X
