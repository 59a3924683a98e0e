-- The kept places as a part of the table. In order: the state field by field; their place and length, what each node's are after those of one node were changed,
-- and that everything else is as it was; that a change of a session or of a site leaves them; then the kept places set anew: what they are, and what the
-- table says.
use Prim.Native.Nat.{ℕ, ◌+◌, ◌≤◌, ◌<◌}
use native.Mathlib.Omega.{arith}
use mathlib.Core.Path.{◌≡◌, ap}
use mathlib.Core.Logic.{⊎_elim}
use mathlib.Core.Bool.{cond, not, ◌&&◌}
use mathlib.Core.List.{List, []}
use lib.Dec.{ltb, eqb, lt→ltb}
use lib.ListN.{length}
use mir.Facts.{and_yes, yes_and, and_no, ltb_yes, eqb_yes, eqb_no}
use borrow.Author.Tests.{lt-ltb}
use Rattle.codec.specs.Le.{load}
use Rattle.codec.specs.Part.{part_of, Keeps}
use Rattle.codec.proofs.Part.{length_part, length-on_part}
use Rattle.protocol.specs.State.{State}
use Rattle.protocol.specs.Change.{Change, SetSession, SetClock, Publish, Receive, at}
use Rattle.parts.specs.Node.{clock_in, heard_in, store_in}
use Rattle.parts.specs.Channel.{queue_in}
use Rattle.parts.specs.Session.{session_in}
use Rattle.search.specs.Kept.{places_in}
use Rattle.search.proofs.Kept.{length_places}
use Rattle.table.specs.Parts.{Whole, place_of, session_at, site_at, kept_at, session_of, site_of, node_of, channel_of, kept_of, on_session, on_site, on_kept}
use Rattle.table.specs.Decode.{setting_in, decode}
use Rattle.table.specs.Put.{kept_anew, kept_after}
use Rattle.table.specs.Fits.{Fits}
use Rattle.table.proofs.Parts.{load_elsewhere, part_elsewhere, part_either}

-- ---- the state, field by field

pub state_ext : (S U : State) → S.net.setting ≡ U.net.setting → ((m p : ℕ) → S.net.clock m p ≡ U.net.clock m p) → ((m p : ℕ) → S.net.heard m p ≡ U.net.heard m p) → ((m p : ℕ) → S.net.store m p ≡ U.net.store m p)
    → ((i m p : ℕ) → S.net.chan i m p ≡ U.net.chan i m p) → ((s : ℕ) → S.session s ≡ U.session s) → S ≡ U
state_ext S U setting clock heard store chan session = λ z.
    record {
      net = record { setting = setting z; clock = λ m p. clock m p z; heard = λ m p. heard m p z; store = λ m p. store m p z; chan = λ i m p. chan i m p z };
      session = λ s. session s z;
    }

chan_same : (t u : List ℕ) → ((i : ℕ) → site_of u i ≡ site_of t i) → (i m p : ℕ) → (decode u).net.chan i m p ≡ (decode t).net.chan i m p
unfolding decode
chan_same t u site i m p = ap (λ b. cond (ltb m 4 && not (eqb i m)) (queue_in (channel_of b p (place_of i m))) []) (site i)

-- ---- their place and length

pub kept_is : (t : List ℕ) (m p : ℕ) → m < 4 → p < 4 → kept_of t m p ≡ part_of (kept_at m p) 64 t
unfolding kept_of
kept_is t m p h g = rw (lt-ltb m 4 h, lt-ltb p 4 g)

pub length-kept : (t : List ℕ) (m p : ℕ) → Whole t → m < 4 → p < 4 → length (kept_of t m p) ≡ 64
length-kept t m p l h g = rw (kept_is t m p h g) (length_part (kept_at m p) 64 t (omega arith))

-- ---- after f was done to those of node (m, p)

module _ (t : List ℕ) (m p : ℕ) (f : List ℕ → List ℕ) (l : Whole t) (h : m < 4) (g : p < 4) (keeps : Keeps 64 f) where
  pub length-on_kept : length (on_kept m p f t) ≡ length t
  unfolding on_kept
  length-on_kept = length-on_part (kept_at m p) 64 f t (omega arith) keeps

  pub kept-on_kept : (j q : ℕ) → kept_of (on_kept m p f t) j q ≡ cond (at m p j q) (f (kept_of t j q)) (kept_of t j q)
  unfolding on_kept kept_of at
  kept-on_kept j q =
      part_either (kept_at m p) 64 f t (omega arith) keeps (ltb j 4 && ltb q 4) (eqb j m && eqb q p) (kept_at j q)
      (λ c.
      let same = and_yes (eqb j m) (eqb q p) c in
      let e : j ≡ m = eqb_yes same.0 in
      let e' : q ≡ p = eqb_yes same.1 in yes_and (ltb j 4) (ltb q 4) (lt→ltb j 4 (omega arith)) (lt→ltb q 4 (omega arith)))
      (λ c.
      let same = and_yes (eqb j m) (eqb q p) c in
      let e : j ≡ m = eqb_yes same.0 in
      let e' : q ≡ p = eqb_yes same.1 in omega arith)
      (λ b n.
      let both = and_yes (ltb j 4) (ltb q 4) b in
      let e : j < 4 = ltb_yes both.0 in
      let e' : q < 4 = ltb_yes both.1 in (
        omega arith,
        λ k u v x y.
            ⊎_elim (λ c. let r : j ≡ m → ⊥ = eqb_no c in omega arith) (λ c. let r : q ≡ p → ⊥ = eqb_no c in omega arith) (and_no (eqb j m) (eqb q p) n),
      ))

  pub site-on_kept : (j : ℕ) → site_of (on_kept m p f t) j ≡ site_of t j
  unfolding on_kept site_of
  site-on_kept j =
      part_elsewhere (kept_at m p) 64 f t (omega arith) keeps (ltb j 4) (site_at j) 13056
      (λ b. let e : j < 4 = ltb_yes b in (omega arith, λ k u v x y. omega arith))

  pub session-on_kept : (s : ℕ) → session_of (on_kept m p f t) s ≡ session_of t s
  unfolding on_kept session_of
  session-on_kept s =
      part_elsewhere (kept_at m p) 64 f t (omega arith) keeps (ltb s 16) (session_at s) 128
      (λ b. let e : s < 16 = ltb_yes b in (omega arith, λ k u v x y. omega arith))

  load-on_kept : (w j : ℕ) → j + w ≤ 128 → load w (on_kept m p f t) j ≡ load w t j
  unfolding on_kept
  load-on_kept w j b = load_elsewhere (kept_at m p) 64 f t (omega arith) keeps w j (λ k u v x y. omega arith)

  setting-on_kept : setting_in (on_kept m p f t) ≡ setting_in t
  setting-on_kept = λ z. record { sites = load-on_kept 1 0 (omega arith) z; partitions = load-on_kept 1 1 (omega arith) z }

  decode-on_kept : decode (on_kept m p f t) ≡ decode t
  unfolding decode
  decode-on_kept =
      state_ext (decode (on_kept m p f t)) (decode t)
      setting-on_kept
      (λ j q. ap (λ b. clock_in (node_of b q)) (site-on_kept j))
      (λ j q. ap (λ b. heard_in (node_of b q)) (site-on_kept j))
      (λ j q. ap (λ b. store_in (node_of b q)) (site-on_kept j))
      (chan_same t (on_kept m p f t) site-on_kept)
      (λ s. ap session_in (session-on_kept s))

-- ---- a session or a site changes, and they stay

module _ (t : List ℕ) (f : List ℕ → List ℕ) (l : Whole t) where
  pub kept-on_session : (s : ℕ) → s < 16 → Keeps 128 f → (j q : ℕ) → kept_of (on_session s f t) j q ≡ kept_of t j q
  unfolding on_session kept_of
  kept-on_session s h keeps j q =
      part_elsewhere (session_at s) 128 f t (omega arith) keeps (ltb j 4 && ltb q 4) (kept_at j q) 64
      (λ b.
      let both = and_yes (ltb j 4) (ltb q 4) b in
      let e : j < 4 = ltb_yes both.0 in
      let e' : q < 4 = ltb_yes both.1 in (omega arith, λ k u v x y. omega arith))

  pub kept-on_site : (m : ℕ) → m < 4 → Keeps 13056 f → (j q : ℕ) → kept_of (on_site m f t) j q ≡ kept_of t j q
  unfolding on_site kept_of
  kept-on_site m h keeps j q =
      part_elsewhere (site_at m) 13056 f t (omega arith) keeps (ltb j 4 && ltb q 4) (kept_at j q) 64
      (λ b.
      let both = and_yes (ltb j 4) (ltb q 4) b in
      let e : j < 4 = ltb_yes both.0 in
      let e' : q < 4 = ltb_yes both.1 in (omega arith, λ k u v x y. omega arith))

-- ---- set anew

module _ (t : List ℕ) (m p : ℕ) (l : Whole t) (h : m < 4) (g : p < 4) where
  abbrev places : List ℕ
  places = places_in (setting_in t) (node_of (site_of t m) p)

  anew_keeps : Keeps 64 (λ s. places)
  anew_keeps s e = length_places (setting_in t) (node_of (site_of t m) p)

  pub length_anew : length (kept_anew m p t) ≡ length t
  unfolding kept_anew
  length_anew = length-on_kept t m p (λ s. places) l h g anew_keeps

  pub setting_anew : setting_in (kept_anew m p t) ≡ setting_in t
  unfolding kept_anew
  setting_anew = setting-on_kept t m p (λ s. places) l h g anew_keeps

  pub decode_anew : decode (kept_anew m p t) ≡ decode t
  unfolding kept_anew
  decode_anew = decode-on_kept t m p (λ s. places) l h g anew_keeps

  pub site_anew : (j : ℕ) → site_of (kept_anew m p t) j ≡ site_of t j
  unfolding kept_anew
  site_anew = site-on_kept t m p (λ s. places) l h g anew_keeps

  pub session_anew : (s : ℕ) → session_of (kept_anew m p t) s ≡ session_of t s
  unfolding kept_anew
  session_anew = session-on_kept t m p (λ s. places) l h g anew_keeps

  -- those of the node are what the search finds, and those of the others as they were
  pub kept_anew_lem : (j q : ℕ) → kept_of (kept_anew m p t) j q ≡ cond (at m p j q) places (kept_of t j q)
  unfolding kept_anew
  kept_anew_lem = kept-on_kept t m p (λ s. places) l h g anew_keeps

-- a change's kept places: none is set, or those of one node are
pub after_elim : (P : List ℕ → Type 0) (c : Change) (t u : List ℕ) → Fits c t → length u ≡ length t → P u → ((m p : ℕ) → Whole u → m < 4 → p < 4 → P (kept_anew m p u)) → P (kept_after c u)
unfolding kept_after
after_elim P (SetSession s x) t u fit e a b = a
after_elim P (SetClock m p c) t u fit e a b = a
after_elim P (Publish m p x) t u fit e a b = b m p (omega (arith, fit.whole)) (omega (arith, fit.site, fit.sites)) fit.partition
after_elim P (Receive i m p x) t u fit e a b = b m p (omega (arith, fit.whole)) fit.site fit.partition
