-- The same bytes written at the same places of two lists. In order: one byte; no write, and two writes one after the other (`Twin`); a number; what is
-- made of numbers, up to a session; and something done to a part, up to sessions, sites, nodes and channels.
use Prim.Native.Nat.{ℕ, zero, suc, ◌+◌, ◌*◌, ◌-◌, ◌/◌, ◌%◌, ◌≤◌, ◌<◌}
use native.Mathlib.Decide.{dec_lt}
use native.Mathlib.Omega.{arith}
use mathlib.Core.Path.{◌≡◌, refl, sym, ap, subst, ◌∙◌}
use mathlib.Core.Logic.{◌⊎◌, inl, inr}
use mathlib.Core.List.{List, [], ◌∷◌}
use lib.ListN.{length, get_or, set, length-set}
use Rattle.codec.specs.Le.{put}
use Rattle.codec.specs.Fields.{Field, field, put_all}
use Rattle.codec.specs.Part.{part_of, on_part, Keeps}
use Rattle.codec.proofs.Part.{length-on_part, part_on_part, get_or-on_part, get_d_part}
use Rattle.vector.specs.Vec.{Vec, width}
use Rattle.vector.specs.Entries.{put_first, put_vec}
use Rattle.protocol.specs.Record.{Rec, Msg, Update, Heartbeat}
use Rattle.protocol.specs.State.{Mark, Session}
use Rattle.record.specs.RecordBytes.{record_fields, put_record, beat, put_message}
use Rattle.parts.specs.Session.{flag, put_marks, head_fields, put_session}
use Rattle.table.specs.Parts.{Long, session_at, site_at, node_at, channel_at, session_of, site_of, node_of, channel_of, on_session, on_site, on_node, on_channel}
use Rattle.table.proofs.Parts.{session_is, site_is, node_is, channel_is}
use Rattle.archive.specs.Influence.{SameWrites}

-- ---- one byte: both as they were, or the same

abbrev SameByte : (x x' y y' : ℕ) → Type 0
SameByte x x' y y' = ((x' ≡ x) × (y' ≡ y)) ⊎ (x' ≡ y')

byte_then : {x x' x'' y y' y'' : ℕ} → SameByte x x' y y' → SameByte x' x'' y' y'' → SameByte x x'' y y''
byte_then (inl a) (inl b) = inl (b.0 ∙ a.0, b.1 ∙ a.1)
byte_then (inr a) (inl b) = inr (b.0 ∙ a ∙ sym b.1)
byte_then a (inr b) = inr b

byte_is : {x x' y y' z z' w w' : ℕ} → x ≡ z → x' ≡ z' → y ≡ w → y' ≡ w' → SameByte x x' y y' → SameByte z z' w w'
byte_is p p' q q' (inl a) = inl (sym p' ∙ a.0 ∙ p, sym q' ∙ a.1 ∙ q)
byte_is p p' q q' (inr a) = inr (sym p' ∙ a ∙ q')

-- ---- s became s' as r became r', and both are as long

pub record Twin (s s' r r' : List ℕ) : Type 0 where
  pub writes : SameWrites s s' r r'
  pub long : length s' ≡ length r'

-- f writes the same to s and to r
abbrev pub Both : (List ℕ → List ℕ) → (s r : List ℕ) → Type 0
Both f s r = SameWrites s (f s) r (f r)

pub writes_none : (s r : List ℕ) → SameWrites s s r r
unfolding SameWrites
writes_none s r j = inl (refl, refl)

pub twin_none : (s r : List ℕ) → length s ≡ length r → Twin s s r r
twin_none s r l = record { writes = writes_none s r; long = l }

writes_then : (s s' s'' r r' r'' : List ℕ) → SameWrites s s' r r' → SameWrites s' s'' r' r'' → SameWrites s s'' r r''
unfolding SameWrites
writes_then s s' s'' r r' r'' f g j = byte_then (f j) (g j)

pub twin_then : {s s' s'' r r' r'' : List ℕ} → Twin s s' r r' → Twin s' s'' r' r'' → Twin s s'' r r''
twin_then {s} {s'} {s''} {r} {r'} {r''} a b = record { writes = writes_then s s' s'' r r' r'' a.writes b.writes; long = b.long }

-- ---- a byte and a number

writes-set : (s r : List ℕ) (i x : ℕ) → length s ≡ length r → SameWrites s (set s i x) r (set r i x)
unfolding SameWrites
writes-set [] [] i x l j = inl (refl, refl)
writes-set [] (z ∷ r) i x l j = absurd (omega arith)
writes-set (y ∷ s) [] i x l j = absurd (omega arith)
writes-set (y ∷ s) (z ∷ r) zero x l zero = inr refl
writes-set (y ∷ s) (z ∷ r) zero x l (suc j) = inl (refl, refl)
writes-set (y ∷ s) (z ∷ r) (suc i) x l zero = inl (refl, refl)
writes-set (y ∷ s) (z ∷ r) (suc i) x l (suc j) = writes-set s r i x (omega arith) j

twin_set : (s r : List ℕ) (i x : ℕ) → length s ≡ length r → Twin s (set s i x) r (set r i x)
twin_set s r i x l = record { writes = writes-set s r i x l; long = length-set s i x ∙ l ∙ sym (length-set r i x) }

-- each of the following is done to s' and r', after what was done before
pub twin_put : (n at x : ℕ) {s s' r r' : List ℕ} → Twin s s' r r' → Twin s (put n s' at x) r (put n r' at x)
unfolding put
twin_put zero at x a = a
twin_put (suc n) at x {s} {s'} {r} {r'} a = twin_put n (suc at) (x / 256) (twin_then a (twin_set s' r' at (x % 256) a.long))

-- ---- what is made of numbers

twin_put_first : (n at : ℕ) (v : Vec) {s s' r r' : List ℕ} → Twin s s' r r' → Twin s (put_first n s' at v) r (put_first n r' at v)
unfolding put_first
twin_put_first zero at v a = a
twin_put_first (suc n) at v a = twin_put 8 (at + 8 * n) (v n) (twin_put_first n at v a)

pub twin_put_vec : (at : ℕ) (v : Vec) {s s' r r' : List ℕ} → Twin s s' r r' → Twin s (put_vec s' at v) r (put_vec r' at v)
unfolding put_vec
twin_put_vec at v a = twin_put_first width at v a

twin_put_all : (at : ℕ) (fs : List Field) {s s' r r' : List ℕ} → Twin s s' r r' → Twin s (put_all at fs s') r (put_all at fs r')
twin_put_all at [] a = a
twin_put_all at (field p w x ∷ fs) a = twin_put_all at fs (twin_put w (at + p) x a)

pub twin_put_record : (at kind : ℕ) (x : Rec) {s s' r r' : List ℕ} → Twin s s' r r' → Twin s (put_record s' at kind x) r (put_record r' at kind x)
unfolding put_record
twin_put_record at kind x a = twin_put_vec (at + 16) x.carried (twin_put_all at (record_fields kind x) a)

pub twin_put_message : (at m : ℕ) (x : Msg) {s s' r r' : List ℕ} → Twin s s' r r' → Twin s (put_message s' at m x) r (put_message r' at m x)
unfolding put_message
twin_put_message at m (Update x) a = twin_put_record at 1 x a
twin_put_message at m (Heartbeat t) a = twin_put_record at 2 (beat m t) a

twin_put_marks : (i : ℕ) (ms : List Mark) {s s' r r' : List ℕ} → Twin s s' r r' → Twin s (put_marks s' i ms) r (put_marks r' i ms)
unfolding put_marks
twin_put_marks i [] a = a
twin_put_marks i (m ∷ ms) a = twin_put_marks (suc i) ms (twin_put 1 (16 + i) (flag m.read) (twin_put 1 (8 + i) m.key a))

pub twin_put_session : (x : Session) {s s' r r' : List ℕ} → Twin s s' r r' → Twin s (put_session x s') r (put_session x r')
unfolding put_session
twin_put_session x a =
    twin_put_marks 0 x.page.marks
    (twin_put_vec 96 x.page.gathered (twin_put_vec 64 x.page.vec (twin_put_vec 32 x.vec (twin_put_all 0 (head_fields x) a))))

-- ---- f done to a part of both

-- what stands in the part after f was done to it
get_or_done : (off k : ℕ) (f : List ℕ → List ℕ) (t : List ℕ) → off + k ≤ length t → Keeps k f → (i : ℕ) → i < k → get_or (on_part off k f t) (off + i) 0 ≡ get_or (f (part_of off k t)) i 0
get_or_done off k f t fit keeps i h = sym (get_d_part off k (on_part off k f t) i h) ∙ ap (λ b. get_or b i 0) (part_on_part off k f t fit keeps)

module _ (off k : ℕ) (f : List ℕ → List ℕ) (s r : List ℕ) (fit : off + k ≤ length s) (l : length s ≡ length r) (keeps : Keeps k f) where
  fit' : off + k ≤ length r
  fit' = omega arith

  writes-on_part : Both f (part_of off k s) (part_of off k r) → Both (on_part off k f) s r
  unfolding SameWrites
  writes-on_part a j = go (dec_lt j off) (dec_lt j (off + k))
    where
      At : ℕ → Type 0
      At i = SameByte (get_or s i 0) (get_or (on_part off k f s) i 0) (get_or r i 0) (get_or (on_part off k f r) i 0)

      outside : (off ≤ j → j < off + k → ⊥) → At j
      outside o = inl (get_or-on_part off k f s fit keeps j o, get_or-on_part off k f r fit' keeps j o)

      inside : (i : ℕ) → i < k → At (off + i)
      inside i h =
          byte_is (get_d_part off k s i h) (sym (get_or_done off k f s fit keeps i h)) (get_d_part off k r i h) (sym (get_or_done off k f r fit' keeps i h)) (a i)

      go : Dec (j < off) → Dec (j < off + k) → At j
      go (yes b) e = outside (λ u v. omega arith)
      go (no b) (no e) = outside (λ u v. omega arith)
      go (no b) (yes e) = let q : off + (j - off) ≡ j = omega arith in subst At q (inside (j - off) (omega arith))

  pub twin_on_part : Both f (part_of off k s) (part_of off k r) → Twin s (on_part off k f s) r (on_part off k f r)
  twin_on_part a = record { writes = writes-on_part a; long = length-on_part off k f s fit keeps ∙ l ∙ sym (length-on_part off k f r fit' keeps) }

-- ---- sessions and sites of the table

module _ (f : List ℕ → List ℕ) (t u : List ℕ) (l : Long t) (l' : length u ≡ length t) where
  pub twin_on_session : (s : ℕ) → s < 16 → Keeps 128 f → Both f (session_of t s) (session_of u s) → Twin t (on_session s f t) u (on_session s f u)
  unfolding on_session
  twin_on_session s h keeps = rw (session_is t s h, session_is u s h) (twin_on_part (session_at s) 128 f t u (omega arith) (omega arith) keeps)

  pub twin_on_site : (m : ℕ) → m < 4 → Keeps 13056 f → Both f (site_of t m) (site_of u m) → Twin t (on_site m f t) u (on_site m f u)
  unfolding on_site
  twin_on_site m h keeps = rw (site_is t m h, site_is u m h) (twin_on_part (site_at m) 13056 f t u (omega arith) (omega arith) keeps)

-- ---- nodes and channels of a site

module _ (f : List ℕ → List ℕ) (s r : List ℕ) (p : ℕ) (l : length s ≡ 13056) (l' : length r ≡ 13056) (h : p < 4) where
  pub twin_on_node : Keeps 1856 f → Both f (node_of s p) (node_of r p) → Twin s (on_node p f s) r (on_node p f r)
  unfolding on_node
  twin_on_node keeps = rw (node_is s p h, node_is r p h) (twin_on_part (node_at p) 1856 f s r (omega arith) (omega arith) keeps)

  pub twin_on_channel : (d : ℕ) → d < 3 → Keeps 464 f → Both f (channel_of s p d) (channel_of r p d) → Twin s (on_channel p d f s) r (on_channel p d f r)
  unfolding on_channel
  twin_on_channel d g keeps =
      rw (channel_is s p d h g, channel_is r p d h g) (twin_on_part (channel_at p d) 464 f s r (omega arith) (omega arith) keeps)
