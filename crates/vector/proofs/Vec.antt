-- The laws of vectors. In order: the order entry by entry (`LeV`) with its tests, the lowest site that is short, the largest entry, and for each way of raising a vector what it is above.
-- None looks at the number of entries.
use Prim.Native.Nat.{ℕ, zero, suc, ◌≤◌, ◌<◌, max}
use native.Mathlib.Decide.{dec_lt}
use native.Mathlib.Omega.{arith}
use mathlib.Core.Path.{◌≡◌, refl, sym, subst, fun_ext}
use mathlib.Core.Logic.{◌⊎◌, inl, inr, ⊎_elim}
use mathlib.Core.Bool.{not, ◌||◌}
use lib.Dec.{T, leb, eqb, le→leb, eqb_refl}
use mir.Facts.{T_not, or_yes, leb_yes, eqb_yes}
use Rattle.codec.proofs.Tests.{cond_elim}
use Rattle.codec.proofs.Below.{all_below-at, all_below_lem, FirstNot, first_not_lem}
use Rattle.vector.specs.Vec.{Vec, width, at_most, at_most_but, first_short, first_short_but, largest_of, largest, with_entry, at_least, larger, raised}

-- ---- the order, entry by entry

unfoldable pub LeV : Vec → Vec → Type 0
LeV v w = (i : ℕ) → i < width → v i ≤ w i

pub le_refl : (v : Vec) → LeV v v
unfolding LeV
le_refl v i l = omega arith

pub le_trans : (u v w : Vec) → LeV u v → LeV v w → LeV u w
unfolding LeV
le_trans u v w g h i l = omega (arith, g i l, h i l)

pub at_most_le : (v w : Vec) → T (at_most v w) → LeV v w
unfolding at_most LeV
at_most_le v w t i l = leb_yes (all_below-at width (λ i. leb (v i) (w i)) t i l)

pub le-at_most : (v w : Vec) → LeV v w → T (at_most v w)
unfolding at_most LeV
le-at_most v w h = all_below_lem width (λ i. leb (v i) (w i)) (λ i l. le→leb (v i) (w i) (h i l))

pub at_most_but_le : (m : ℕ) (v w : Vec) → T (at_most_but m v w) → (i : ℕ) → i < width → (i ≡ m) ⊎ (v i ≤ w i)
unfolding at_most_but
at_most_but_le m v w t i l =
    ⊎_elim (λ e. inl (eqb_yes e)) (λ h. inr (leb_yes h)) (or_yes (eqb i m) (leb (v i) (w i)) (all_below-at width (λ i. eqb i m || leb (v i) (w i)) t i l))

-- ---- the lowest site that is short

pub first_short_lem : (v w : Vec) → T (not (at_most v w)) → FirstNot width (λ i. leb (v i) (w i)) (first_short v w)
unfolding at_most first_short
first_short_lem v w t = first_not_lem width (λ i. leb (v i) (w i)) t

pub first_short_but_lem : (m : ℕ) (v w : Vec) → T (not (at_most_but m v w)) → FirstNot width (λ i. eqb i m || leb (v i) (w i)) (first_short_but m v w)
unfolding at_most_but first_short_but
first_short_but_lem m v w t = first_not_lem width (λ i. eqb i m || leb (v i) (w i)) t

-- ---- the largest entry

first_le-largest : (n : ℕ) (v : Vec) (i : ℕ) → i < n → v i ≤ largest_of n v
unfolding largest_of
first_le-largest zero v i l = absurd (omega arith)
first_le-largest (suc n) v i l = go (first_le-largest n v i) (dec_lt i n)
  where
    go : (i < n → v i ≤ largest_of n v) → Dec (i < n) → v i ≤ max (largest_of n v) (v n)
    go r (yes k) = let h = r k in omega arith
    go r (no k) = subst (λ j. v j ≤ max (largest_of n v) (v n)) (let e : n ≡ i = omega arith in e) (omega arith)

pub le-largest : (v : Vec) (i : ℕ) → i < width → v i ≤ largest v
unfolding largest
le-largest v i l = first_le-largest width v i l

-- ---- what raises a vector

pub larger_left : (v w : Vec) → LeV v (larger v w)
unfolding LeV larger
larger_left v w i l = omega arith

pub larger_right : (v w : Vec) → LeV w (larger v w)
unfolding LeV larger
larger_right v w i l = omega arith

pub with_entry_same : (v : Vec) (m t : ℕ) → with_entry v m t m ≡ t
unfolding with_entry
with_entry_same v m t = cond_elim (λ n. n ≡ t) (eqb m m) (λ e. omega arith) (λ d. absurd (T_not (eqb m m) (eqb_refl m) d))

pub with_entry_up : (v : Vec) (m t : ℕ) → v m ≤ t → LeV v (with_entry v m t)
unfolding LeV with_entry
with_entry_up v m t h i l =
    cond_elim (λ n. v i ≤ n) (eqb i m) (λ e. let q : i ≡ m = eqb_yes e in subst (λ j. v j ≤ t) (sym q) h) (λ d. omega arith)

pub at_least_up : (v : Vec) (m t : ℕ) → LeV v (at_least v m t)
unfolding LeV at_least
at_least_up v m t i l = cond_elim (λ n. v i ≤ n) (eqb i m) (λ e. omega arith) (λ d. omega arith)

pub at_least_stamp : (v : Vec) (m t : ℕ) → t ≤ at_least v m t m
unfolding at_least
at_least_stamp v m t = cond_elim (λ n. t ≤ n) (eqb m m) (λ e. omega arith) (λ d. absurd (T_not (eqb m m) (eqb_refl m) d))

pub raised_up : (v w : Vec) (m t : ℕ) → LeV v (raised v w m t)
unfolding raised
raised_up v w m t = le_trans v (larger v w) (at_least (larger v w) m t) (larger_left v w) (at_least_up (larger v w) m t)

pub raised-carried : (v w : Vec) (m t : ℕ) → LeV w (raised v w m t)
unfolding raised
raised-carried v w m t = le_trans w (larger v w) (at_least (larger v w) m t) (larger_right v w) (at_least_up (larger v w) m t)

pub raised-stamp : (v w : Vec) (m t : ℕ) → t ≤ raised v w m t m
unfolding raised
raised-stamp v w m t = at_least_stamp (larger v w) m t

-- a vector with no stamp of its own raises to the entrywise larger
pub raised-plain : (v w : Vec) (m : ℕ) → raised v w m 0 ≡ larger v w
unfolding raised at_least
raised-plain v w m = fun_ext (λ i. cond_elim (λ n. n ≡ larger v w i) (eqb i m) (λ e. omega arith) (λ d. refl))
