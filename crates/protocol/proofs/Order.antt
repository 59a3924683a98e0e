-- The order of records and the search for the newest. The rules to use: `newer_by_source`, `newer_by_stamp`, `no_older_refl`, `no_older_trans`, `newer_trans`,
-- `newer_no_older`, and `newest_is`, which says of any test what the search finds. Nobody above looks into `newer` or `rank`.
use Prim.Native.Nat.{ℕ, ◌≤◌, ◌<◌}
use native.Mathlib.Decide.{dec_lt}
use native.Mathlib.Omega.{arith}
use mathlib.Core.Path.{◌≡◌, refl, sym, subst}
use mathlib.Core.Logic.{◌⊎◌, inl, inr}
use mathlib.Core.Bool.{Bool, not, ◌&&◌, ◌||◌, or-false}
use mathlib.Core.List.Memᴰ
use mathlib.Core.List.{List, [], ◌∷◌}
use mathlib.Core.Option.{Option, some, none}
use lib.Dec.{T, ltb, eqb, lt→ltb}
use mir.Facts.{T_not, not_T, and_yes, yes_and, and_no, or_yes, or_no, ltb_yes, ltb_no, eqb_yes}
use borrow.Author.Tests.{le-ltb, eq-eqb, ne_eqb}
use Rattle.codec.proofs.Tests.{cond_elim, yes_or_l, yes_or_r, yes_eqb}
use Rattle.vector.specs.Vec.{Vec}
use Rattle.vector.proofs.Vec.{LeV, le_refl, raised_up}
use Rattle.protocol.specs.Record.{Setting, Id, Rec, rank, newer, newer_of, newest, raised_by}
use Rattle.protocol.specs.Past.{◌∈◌}
use Rattle.protocol.specs.Causal.{NoOlder}

-- ---- the order, in numbers: a stamp and a rank that are at least as great as another's

AsGreat : (s r s' r' : ℕ) → Type 0
AsGreat s r s' r' = (s' < s) ⊎ ((s' ≡ s) × (r' ≤ r))

as_great : (s r s' r' : ℕ) → T (not (ltb s s' || (eqb s s' && ltb r r'))) → AsGreat s r s' r'
unfolding AsGreat
as_great s r s' r' t = go (or_no (ltb s s') (eqb s s' && ltb r r') t) (dec_lt s' s)
  where
    near : s' ≤ s → (s' < s → ⊥) → T (not (eqb s s')) ⊎ T (not (ltb r r')) → AsGreat s r s' r'
    near a d (inl n) = absurd (T_not (eqb s s') (yes_eqb s s' (omega arith)) n)
    near a d (inr n) = inr (omega arith, ltb_no n)

    go : T (not (ltb s s')) × T (not (eqb s s' && ltb r r')) → Dec (s' < s) → AsGreat s r s' r'
    go n (yes l) = inl l
    go n (no d) = near (ltb_no n.0) d (and_no (eqb s s') (ltb r r') n.1)

not_greater : (s r s' r' : ℕ) → AsGreat s r s' r' → T (not (ltb s s' || (eqb s s' && ltb r r')))
unfolding AsGreat
not_greater s r s' r' g = not_T (ltb s s' || (eqb s s' && ltb r r')) (λ t. go g (or_yes (ltb s s') (eqb s s' && ltb r r') t))
  where
    go : (s' < s) ⊎ ((s' ≡ s) × (r' ≤ r)) → T (ltb s s') ⊎ T (eqb s s' && ltb r r') → ⊥
    go (inl a) (inl b) = let k : s < s' = ltb_yes b in omega arith
    go (inl a) (inr b) = let k : s ≡ s' = eqb_yes (and_yes (eqb s s') (ltb r r') b).0 in omega arith
    go (inr a) (inl b) = let k : s < s' = ltb_yes b in omega arith
    go (inr a) (inr b) = let k : r < r' = ltb_yes (and_yes (eqb s s') (ltb r r') b).1 in omega arith

as_great_trans : (s r s' r' s'' r'' : ℕ) → AsGreat s r s' r' → AsGreat s' r' s'' r'' → AsGreat s r s'' r''
unfolding AsGreat
as_great_trans s r s' r' s'' r'' (inl a) (inl b) = inl (omega arith)
as_great_trans s r s' r' s'' r'' (inl a) (inr b) = inl (omega arith)
as_great_trans s r s' r' s'' r'' (inr a) (inl b) = inl (omega arith)
as_great_trans s r s' r' s'' r'' (inr a) (inr b) = inr (omega arith)

-- ---- the order

module _ (c : Setting) where
  abbrev rank_of : Id → ℕ
  rank_of x = rank c x.key x.source

  -- as a program compares: where the stamps are equal the sources decide, else the stamps
  pub newer_by_source : (x y : Id) → y.stamp ≡ x.stamp → ltb y.source x.source ≡ newer c x y
  unfolding newer rank
  newer_by_source x y e = rw (le-ltb y.stamp x.stamp (omega arith), eq-eqb y.stamp x.stamp e)

  pub newer_by_stamp : (x y : Id) → (y.stamp ≡ x.stamp → ⊥) → ltb y.stamp x.stamp ≡ newer c x y
  unfolding newer
  newer_by_stamp x y d = rw (ne_eqb y.stamp x.stamp d) (sym (or-false (ltb y.stamp x.stamp)))

  pub no_older_refl : (x : Id) → NoOlder c x x
  unfolding NoOlder newer AsGreat
  no_older_refl x = not_greater x.stamp (rank_of x) x.stamp (rank_of x) (inr (omega arith))

  pub no_older_trans : (x y z : Id) → NoOlder c x y → NoOlder c y z → NoOlder c x z
  unfolding NoOlder newer
  no_older_trans x y z a b =
      not_greater x.stamp (rank_of x) z.stamp (rank_of z)
      (as_great_trans x.stamp (rank_of x) y.stamp (rank_of y) z.stamp (rank_of z)
      (as_great x.stamp (rank_of x) y.stamp (rank_of y) a)
      (as_great y.stamp (rank_of y) z.stamp (rank_of z) b))

  pub newer_no_older : (x y : Id) → T (newer c x y) → NoOlder c x y
  unfolding NoOlder newer AsGreat
  newer_no_older x y t = not_greater x.stamp (rank_of x) y.stamp (rank_of y) (go (or_yes (ltb y.stamp x.stamp) (eqb y.stamp x.stamp && ltb (rank_of y) (rank_of x)) t))
    where
      go : T (ltb y.stamp x.stamp) ⊎ T (eqb y.stamp x.stamp && ltb (rank_of y) (rank_of x)) → AsGreat x.stamp (rank_of x) y.stamp (rank_of y)
      go (inl a) = inl (ltb_yes a)
      go (inr b) =
          let k = and_yes (eqb y.stamp x.stamp) (ltb (rank_of y) (rank_of x)) b in
          let l : rank_of y < rank_of x = ltb_yes k.1 in
          inr (eqb_yes k.0, omega arith)

  pub newer_trans : (x y z : Id) → T (newer c x y) → T (newer c y z) → T (newer c x z)
  unfolding newer
  newer_trans x y z a b = go (or_yes (above x y) (level x y) a) (or_yes (above y z) (level y z) b)
    where
      above : Id → Id → Bool
      above u v = ltb v.stamp u.stamp

      level : Id → Id → Bool
      level u v = eqb v.stamp u.stamp && ltb (rank_of v) (rank_of u)

      by_stamp : z.stamp < x.stamp → T (newer c x z)
      by_stamp l = yes_or_l (above x z) (level x z) (lt→ltb z.stamp x.stamp l)

      by_rank : z.stamp ≡ x.stamp → rank_of z < rank_of x → T (newer c x z)
      by_rank e l = yes_or_r (above x z) (level x z) (yes_and (eqb z.stamp x.stamp) (ltb (rank_of z) (rank_of x)) (yes_eqb z.stamp x.stamp e) (lt→ltb (rank_of z) (rank_of x) l))

      split : (u v : Id) → T (level u v) → (v.stamp ≡ u.stamp) × (rank_of v < rank_of u)
      split u v t = let k = and_yes (eqb v.stamp u.stamp) (ltb (rank_of v) (rank_of u)) t in (eqb_yes k.0, ltb_yes k.1)

      go : T (above x y) ⊎ T (level x y) → T (above y z) ⊎ T (level y z) → T (newer c x z)
      go (inl s) (inl t) = let k : y.stamp < x.stamp = ltb_yes s in let l : z.stamp < y.stamp = ltb_yes t in by_stamp (omega arith)
      go (inl s) (inr t) = let k : y.stamp < x.stamp = ltb_yes s in let l = split y z t in by_stamp (omega arith)
      go (inr s) (inl t) = let k = split x y s in let l : z.stamp < y.stamp = ltb_yes t in by_stamp (omega arith)
      go (inr s) (inr t) = let k = split x y s in let l = split y z t in by_rank (omega arith) (omega arith)

-- ---- the search

unfoldable pub NewestOf : Setting → (Rec → Bool) → List Rec → Option Rec → Type 0
NewestOf c fit l none = (q : Rec) → q ∈ l → T (fit q) → ⊥
NewestOf c fit l (some r) = (r ∈ l) × T (fit r) × ((q : Rec) → q ∈ l → T (fit q) → NoOlder c r.id q.id)

module _ (c : Setting) (fit : Rec → Bool) where
  newest_skip : (r : Rec) (l : List Rec) (o : Option Rec) → T (not (fit r)) → NewestOf c fit l o → NewestOf c fit (r ∷ l) o
  unfolding NewestOf
  newest_skip r l none f h = λ q m t. go q (Memᴰ.cases_cons m) t
    where
      go : (q : Rec) → (q ≡ r) ⊎ (q ∈ l) → T (fit q) → ⊥
      go q (inl e) t = T_not (fit r) (subst (λ x. T (fit x)) e t) f
      go q (inr m) t = h q m t
  newest_skip r l (some p) f h = (Memᴰ.tail h.0, h.1, λ q m t. go q (Memᴰ.cases_cons m) t)
    where
      go : (q : Rec) → (q ≡ r) ⊎ (q ∈ l) → T (fit q) → NoOlder c p.id q.id
      go q (inl e) t = absurd (T_not (fit r) (subst (λ x. T (fit x)) e t) f)
      go q (inr m) t = h.2 q m t

  newest-take : (r : Rec) (l : List Rec) (o : Option Rec) → T (fit r) → NewestOf c fit l o → NewestOf c fit (r ∷ l) (some (newer_of c r o))
  unfolding NewestOf newer_of
  newest-take r l none f h = (Memᴰ.head refl, f, λ q m t. go q (Memᴰ.cases_cons m) t)
    where
      go : (q : Rec) → (q ≡ r) ⊎ (q ∈ l) → T (fit q) → NoOlder c r.id q.id
      go q (inl e) t = subst (λ x. NoOlder c r.id x.id) (sym e) (no_older_refl c r.id)
      go q (inr m) t = absurd (h q m t)
  newest-take r l (some p) f h = cond_elim (λ x. NewestOf c fit (r ∷ l) (some x)) (newer c p.id r.id) later sooner
    where
      go : (x : Rec) → NoOlder c x.id r.id → NoOlder c x.id p.id → (q : Rec) → (q ≡ r) ⊎ (q ∈ l) → T (fit q) → NoOlder c x.id q.id
      go x a b q (inl e) t = subst (λ z. NoOlder c x.id z.id) (sym e) a
      go x a b q (inr m) t = no_older_trans c x.id p.id q.id b (h.2 q m t)

      later : T (newer c p.id r.id) → NewestOf c fit (r ∷ l) (some p)
      later n = (Memᴰ.tail h.0, h.1, λ q m t. go p (newer_no_older c p.id r.id n) (no_older_refl c p.id) q (Memᴰ.cases_cons m) t)

      sooner : T (not (newer c p.id r.id)) → NewestOf c fit (r ∷ l) (some r)
      sooner n = (Memᴰ.head refl, f, λ q m t. go r (no_older_refl c r.id) (unfold NoOlder in n) q (Memᴰ.cases_cons m) t)

  -- what the search finds fits, and is no older than any that fits; it finds none only if none fits
  pub newest_is : (l : List Rec) → NewestOf c fit l (newest c fit l)
  unfolding newest NewestOf
  newest_is [] = λ q m t. Memᴰ.not-nil m
  newest_is (r ∷ l) =
      cond_elim (NewestOf c fit (r ∷ l)) (fit r) (λ t. newest-take r l (newest c fit l) t (newest_is l)) (λ t. newest_skip r l (newest c fit l) t (newest_is l))

-- ---- raising by what was found

pub raised_by_up : (v : Vec) (o : Option Rec) → LeV v (raised_by v o)
unfolding raised_by
raised_by_up v none = le_refl v
raised_by_up v (some r) = raised_up v r.carried r.id.source r.id.stamp
