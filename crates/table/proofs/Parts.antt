-- The laws of the table's parts: where no two things overlap. In order: a table that is long enough; any part that is there or not; for each kind of thing its place and length,
-- that a change of one keeps the length of the whole, what each thing of the kind is after it, and that things of another kind are as they were;
-- what holds of each byte; and nodes and channels of the whole table.
use Prim.Native.Nat.{ℕ, ◌+◌, ◌≤◌, ◌<◌}
use native.Mathlib.Decide.{dec_lt}
use native.Mathlib.Omega.{arith}
use mathlib.Core.Path.{◌≡◌, refl, ap, ◌∙◌}
use mathlib.Core.Logic.{⊎_elim}
use mathlib.Core.Bool.{Bool, true, false, cond, not, ◌&&◌}
use mathlib.Core.List.{List, []}
use lib.Dec.{T, ltb, eqb, lt→ltb}
use lib.ListN.{length, get_or, drop, length-take, get_or-eq_default}
use lib.Seq.{get_or-take, get_or-drop}
use mir.Syntax.{w8}
use mir.Val.{Fits}
use mir.Facts.{Fits-lit, and_yes, yes_and, and_no, ltb_yes, eqb_yes, eqb_no}
use borrow.Author.Tests.{lt-ltb}
use Rattle.codec.specs.Le.{load, Bytes, Apart}
use Rattle.codec.specs.Part.{part_of, on_part, Keeps}
use Rattle.codec.proofs.Le.{load_ext}
use Rattle.codec.proofs.Part.{length_part, length-on_part, get_or-on_part, part_on_part, part_other}
use Rattle.table.specs.Parts.{Long, Whole, session_at, site_at, node_at, channel_at, session_of, site_of, node_of, channel_of, on_session, on_site, on_node, on_channel}

-- a table of the same length is as long
pub long_still : (t u : List ℕ) → length u ≡ length t → Long t → Long u
long_still t u e l = omega arith

pub whole_still : (t u : List ℕ) → length u ≡ length t → Whole t → Whole u
whole_still t u e w = omega arith

-- a whole table is long
pub whole_long : (t : List ℕ) → Whole t → Long t
whole_long t w = omega arith

-- ---- any part, there where b holds, after f was done to the k bytes from `off`

module _ (off k : ℕ) (f : List ℕ → List ℕ) (t : List ℕ) (fit : off + k ≤ length t) (keeps : Keeps k f) where
  pub load_elsewhere : (w j : ℕ) → Apart j w off k → load w (on_part off k f t) j ≡ load w t j
  load_elsewhere w j o =
      load_ext w (on_part off k f t) t j j (λ i b. get_or-on_part off k f t fit keeps (j + i) (o (j + i) (omega arith) (omega arith)))

  pub part_elsewhere : (b : Bool) (off' k' : ℕ) → (T b → (off' + k' ≤ length t) × Apart off' k' off k) → cond b (part_of off' k' (on_part off k f t)) [] ≡ cond b (part_of off' k' t) []
  part_elsewhere true off' k' o = part_other off k f t fit keeps off' k' (o tt).1 (o tt).0
  part_elsewhere false off' k' o = refl

  -- the part at off' is the same one where e holds
  pub part_either : (b e : Bool) (off' : ℕ) → (T e → T b) → (T e → off' ≡ off) → (T b → T (not e) → (off' + k ≤ length t) × Apart off' k off k)
      → cond b (part_of off' k (on_part off k f t)) [] ≡ cond e (f (cond b (part_of off' k t) [])) (cond b (part_of off' k t) [])
  part_either true true off' h q o = rw (q tt) (part_on_part off k f t fit keeps)
  part_either true false off' h q o = part_other off k f t fit keeps off' k (o tt tt).1 (o tt tt).0
  part_either false true off' h q o = absurd (h tt)
  part_either false false off' h q o = refl

-- the things of a kind, thing j in the k bytes from `at j` where j is below n, after f was done to thing m
numbered : (at : ℕ → ℕ) (k n : ℕ) (t : List ℕ) → ((j : ℕ) → j < n → at j + k ≤ length t) → ((i j : ℕ) → (i ≡ j → ⊥) → Apart (at i) k (at j) k) → (m : ℕ) (f : List ℕ → List ℕ) → m < n → Keeps k f → (j : ℕ)
    → cond (ltb j n) (part_of (at j) k (on_part (at m) k f t)) [] ≡ cond (eqb j m) (f (cond (ltb j n) (part_of (at j) k t) [])) (cond (ltb j n) (part_of (at j) k t) [])
numbered at k n t fit apart m f h keeps j =
    part_either (at m) k f t (fit m h) keeps (ltb j n) (eqb j m) (at j)
    (λ e. let q : j ≡ m = eqb_yes e in lt→ltb j n (omega arith))
    (λ e. ap at (eqb_yes e))
    (λ b d. (fit j (ltb_yes b), apart j m (eqb_no d)))

-- ---- sessions

pub session_is : (t : List ℕ) (s : ℕ) → s < 16 → session_of t s ≡ part_of (session_at s) 128 t
unfolding session_of
session_is t s h = rw (lt-ltb s 16 h)

pub length-session : (t : List ℕ) (s : ℕ) → Long t → s < 16 → length (session_of t s) ≡ 128
length-session t s l h = rw (session_is t s h) (length_part (session_at s) 128 t (omega arith))

module _ (t : List ℕ) (s : ℕ) (f : List ℕ → List ℕ) (l : Long t) (h : s < 16) (keeps : Keeps 128 f) where
  pub length-on_session : length (on_session s f t) ≡ length t
  unfolding on_session
  length-on_session = length-on_part (session_at s) 128 f t (omega arith) keeps

  pub session-on_session : (r : ℕ) → session_of (on_session s f t) r ≡ cond (eqb r s) (f (session_of t r)) (session_of t r)
  unfolding on_session session_of
  session-on_session r = numbered session_at 128 16 t (λ i b. omega arith) (λ a b d k u v x y. omega arith) s f h keeps r

  pub site-on_session : (m : ℕ) → site_of (on_session s f t) m ≡ site_of t m
  unfolding on_session site_of
  site-on_session m =
      part_elsewhere (session_at s) 128 f t (omega arith) keeps (ltb m 4) (site_at m) 13056
      (λ b. let g : m < 4 = ltb_yes b in (omega arith, λ k u v x y. omega arith))

  -- what stands before the sessions
  pub load-on_session : (w j : ℕ) → j + w ≤ 128 → load w (on_session s f t) j ≡ load w t j
  unfolding on_session
  load-on_session w j b = load_elsewhere (session_at s) 128 f t (omega arith) keeps w j (λ k u v x y. omega arith)

-- ---- sites

pub site_is : (t : List ℕ) (m : ℕ) → m < 4 → site_of t m ≡ part_of (site_at m) 13056 t
unfolding site_of
site_is t m h = rw (lt-ltb m 4 h)

pub length-site : (t : List ℕ) (m : ℕ) → Long t → m < 4 → length (site_of t m) ≡ 13056
length-site t m l h = rw (site_is t m h) (length_part (site_at m) 13056 t (omega arith))

module _ (t : List ℕ) (m : ℕ) (f : List ℕ → List ℕ) (l : Long t) (h : m < 4) (keeps : Keeps 13056 f) where
  pub length-on_site : length (on_site m f t) ≡ length t
  unfolding on_site
  length-on_site = length-on_part (site_at m) 13056 f t (omega arith) keeps

  pub site-on_site : (j : ℕ) → site_of (on_site m f t) j ≡ cond (eqb j m) (f (site_of t j)) (site_of t j)
  unfolding on_site site_of
  site-on_site j = numbered site_at 13056 4 t (λ i b. omega arith) (λ a b d k u v x y. omega arith) m f h keeps j

  pub session-on_site : (s : ℕ) → session_of (on_site m f t) s ≡ session_of t s
  unfolding on_site session_of
  session-on_site s =
      part_elsewhere (site_at m) 13056 f t (omega arith) keeps (ltb s 16) (session_at s) 128
      (λ b. let g : s < 16 = ltb_yes b in (omega arith, λ k u v x y. omega arith))

  -- what stands before the sites
  pub load-on_site : (w j : ℕ) → j + w ≤ 4096 → load w (on_site m f t) j ≡ load w t j
  unfolding on_site
  load-on_site w j b = load_elsewhere (site_at m) 13056 f t (omega arith) keeps w j (λ k u v x y. omega arith)

-- ---- nodes of a site

pub node_is : (s : List ℕ) (p : ℕ) → p < 4 → node_of s p ≡ part_of (node_at p) 1856 s
unfolding node_of
node_is s p h = rw (lt-ltb p 4 h)

pub length_node : (s : List ℕ) (p : ℕ) → length s ≡ 13056 → p < 4 → length (node_of s p) ≡ 1856
length_node s p l h = rw (node_is s p h) (length_part (node_at p) 1856 s (omega arith))

module _ (s : List ℕ) (p : ℕ) (f : List ℕ → List ℕ) (l : length s ≡ 13056) (h : p < 4) (keeps : Keeps 1856 f) where
  pub length-on_node : length (on_node p f s) ≡ length s
  unfolding on_node
  length-on_node = length-on_part (node_at p) 1856 f s (omega arith) keeps

  pub node_on_node : (q : ℕ) → node_of (on_node p f s) q ≡ cond (eqb q p) (f (node_of s q)) (node_of s q)
  unfolding on_node node_of
  node_on_node q = numbered node_at 1856 4 s (λ i b. omega arith) (λ a b d k u v x y. omega arith) p f h keeps q

  pub channel_on_node : (q e : ℕ) → channel_of (on_node p f s) q e ≡ channel_of s q e
  unfolding on_node channel_of
  channel_on_node q e =
      part_elsewhere (node_at p) 1856 f s (omega arith) keeps (ltb q 4 && ltb e 3) (channel_at q e) 464
      (λ b.
      let both = and_yes (ltb q 4) (ltb e 3) b in
      let g : q < 4 = ltb_yes both.0 in
      let g' : e < 3 = ltb_yes both.1 in (omega arith, λ k u v x y. omega arith))

-- ---- channels of a site

pub channel_is : (s : List ℕ) (p d : ℕ) → p < 4 → d < 3 → channel_of s p d ≡ part_of (channel_at p d) 464 s
unfolding channel_of
channel_is s p d h h' = rw (lt-ltb p 4 h, lt-ltb d 3 h')

pub length_channel : (s : List ℕ) (p d : ℕ) → length s ≡ 13056 → p < 4 → d < 3 → length (channel_of s p d) ≡ 464
length_channel s p d l h h' = rw (channel_is s p d h h') (length_part (channel_at p d) 464 s (omega arith))

module _ (s : List ℕ) (p d : ℕ) (f : List ℕ → List ℕ) (l : length s ≡ 13056) (h : p < 4) (h' : d < 3) (keeps : Keeps 464 f) where
  pub length-on_channel : length (on_channel p d f s) ≡ length s
  unfolding on_channel
  length-on_channel = length-on_part (channel_at p d) 464 f s (omega arith) keeps

  pub channel_on_channel : (q e : ℕ) → channel_of (on_channel p d f s) q e ≡ cond (eqb q p && eqb e d) (f (channel_of s q e)) (channel_of s q e)
  unfolding on_channel channel_of
  channel_on_channel q e =
      part_either (channel_at p d) 464 f s (omega arith) keeps (ltb q 4 && ltb e 3) (eqb q p && eqb e d) (channel_at q e)
      (λ c.
      let same = and_yes (eqb q p) (eqb e d) c in
      let g : q ≡ p = eqb_yes same.0 in
      let g' : e ≡ d = eqb_yes same.1 in yes_and (ltb q 4) (ltb e 3) (lt→ltb q 4 (omega arith)) (lt→ltb e 3 (omega arith)))
      (λ c.
      let same = and_yes (eqb q p) (eqb e d) c in
      let g : q ≡ p = eqb_yes same.0 in
      let g' : e ≡ d = eqb_yes same.1 in omega arith)
      (λ b n.
      let both = and_yes (ltb q 4) (ltb e 3) b in
      let g : q < 4 = ltb_yes both.0 in
      let g' : e < 3 = ltb_yes both.1 in (
        omega arith,
        λ k u v x y.
            ⊎_elim (λ c. let r : q ≡ p → ⊥ = eqb_no c in omega arith) (λ c. let r : e ≡ d → ⊥ = eqb_no c in omega arith) (and_no (eqb q p) (eqb e d) n),
      ))

  pub node_on_channel : (q : ℕ) → node_of (on_channel p d f s) q ≡ node_of s q
  unfolding on_channel node_of
  node_on_channel q =
      part_elsewhere (channel_at p d) 464 f s (omega arith) keeps (ltb q 4) (node_at q) 1856
      (λ b. let g : q < 4 = ltb_yes b in (omega arith, λ k u v x y. omega arith))

-- ---- what holds of each byte of the whole, and of 0, holds of each byte of a part

abbrev pub Every : (ℕ → Type 0) → List ℕ → Type 0
Every P s = (i : ℕ) → P (get_or s i 0)

module _ (P : ℕ → Type 0) (none : P 0) where
  pub part_every : (off k : ℕ) (t : List ℕ) → ((i : ℕ) → P (get_or t (off + i) 0)) → Every P (part_of off k t)
  part_every off k t all i = go (dec_lt i k)
    where
      go : Dec (i < k) → P (get_or (part_of off k t) i 0)
      go (yes b) = rw (get_or-take k (drop off t) i 0 b, get_or-drop off t i 0) (all i)
      go (no b) = rw (get_or-eq_default (part_of off k t) 0 {n = i} (omega (arith, length-take k (drop off t)))) none

  every_if : (b : Bool) (s : List ℕ) → Every P s → Every P (cond b s [])
  every_if true s all = all
  every_if false s all = λ i. none

  pub every-session : (t : List ℕ) (s : ℕ) → ((i : ℕ) → 128 ≤ i → P (get_or t i 0)) → Every P (session_of t s)
  unfolding session_of
  every-session t s all =
      every_if (ltb s 16) (part_of (session_at s) 128 t) (part_every (session_at s) 128 t (λ i. all (session_at s + i) (omega arith)))

  pub every-site : (t : List ℕ) (m : ℕ) → ((i : ℕ) → 4096 ≤ i → P (get_or t i 0)) → Every P (site_of t m)
  unfolding site_of
  every-site t m all = every_if (ltb m 4) (part_of (site_at m) 13056 t) (part_every (site_at m) 13056 t (λ i. all (site_at m + i) (omega arith)))

  pub every_node : (s : List ℕ) (p : ℕ) → Every P s → Every P (node_of s p)
  unfolding node_of
  every_node s p all = every_if (ltb p 4) (part_of (node_at p) 1856 s) (part_every (node_at p) 1856 s (λ i. all (node_at p + i)))

  pub every_channel : (s : List ℕ) (p d : ℕ) → Every P s → Every P (channel_of s p d)
  unfolding channel_of
  every_channel s p d all =
      every_if (ltb p 4 && ltb d 3) (part_of (channel_at p d) 464 s) (part_every (channel_at p d) 464 s (λ i. all (channel_at p d + i)))

-- ---- the parts of a table of bytes are bytes

module _ (t : List ℕ) (bytes : Bytes t) where
  bytes-site : (m : ℕ) → Bytes (site_of t m)
  bytes-site m = every-site (Fits w8) (Fits-lit tt) t m (λ i b. bytes i)

  pub bytes-node_of : (m p : ℕ) → Bytes (node_of (site_of t m) p)
  bytes-node_of m p = every_node (Fits w8) (Fits-lit tt) (site_of t m) p (bytes-site m)

  pub bytes-channel_of : (m p d : ℕ) → Bytes (channel_of (site_of t m) p d)
  bytes-channel_of m p d = every_channel (Fits w8) (Fits-lit tt) (site_of t m) p d (bytes-site m)

-- ---- nodes and channels of the whole table

module _ (t : List ℕ) (m p : ℕ) (l : Long t) (h : m < 4) (h' : p < 4) where
  pub length-node_of : length (node_of (site_of t m) p) ≡ 1856
  length-node_of = length_node (site_of t m) p (length-site t m l h) h'

  pub length-channel_of : (d : ℕ) → d < 3 → length (channel_of (site_of t m) p d) ≡ 464
  length-channel_of d h'' = length_channel (site_of t m) p d (length-site t m l h) h' h''

-- what X reads of a site after g was done to site m
pub read-on_site {ℓ} : {A : Type ℓ} (X : List ℕ → A) (t : List ℕ) (m : ℕ) (g : List ℕ → List ℕ) → Long t → m < 4 → Keeps 13056 g → (j : ℕ) (u : A)
    → (length (site_of t j) ≡ 13056 → X (g (site_of t j)) ≡ u) → X (site_of (on_site m g t) j) ≡ cond (eqb j m) u (X (site_of t j))
read-on_site X t m g l h keeps j u e =
    ap X (site-on_site t m g l h keeps j)
    ∙ go (eqb j m) (λ q. let r : j ≡ m = eqb_yes q in e (length-site t j l (omega arith)))
  where
    go : (b : Bool) → (T b → X (g (site_of t j)) ≡ u) → X (cond b (g (site_of t j)) (site_of t j)) ≡ cond b u (X (site_of t j))
    go true f = f tt
    go false f = refl
