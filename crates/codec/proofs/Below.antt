-- A test of every number below n. In order: what it says of each number and what it follows from; two such tests joined; the test from the front; a walk;
-- the first number at which it fails; and a claim of every number below n, made number after number.
use Prim.Native.Nat.{ℕ, zero, suc, ◌<◌, ◌+◌}
use native.Mathlib.Decide.{dec_lt}
use native.Mathlib.Omega.{arith}
use native.Mathlib.Numerals.{add-one}
use mathlib.Core.Path.{◌≡◌, refl, sym, subst}
use mathlib.Core.Bool.{Bool, true, false, not, ◌&&◌, and-true, and_assoc}
use lib.Dec.{T}
use mir.Facts.{T_not, and_yes, yes_and}
use Rattle.codec.specs.Below.{all_below, first_not}
use Rattle.codec.proofs.Tests.{cond_elim, and_swap}

pub all_below-at : (n : ℕ) (f : ℕ → Bool) → T (all_below n f) → (i : ℕ) → i < n → T (f i)
unfolding all_below
all_below-at zero f t i l = absurd (omega arith)
all_below-at (suc n) f t i l = go (all_below-at n f (and_yes (all_below n f) (f n) t).0 i) (dec_lt i n)
  where
    go : (i < n → T (f i)) → Dec (i < n) → T (f i)
    go r (yes k) = r k
    go r (no k) = subst (λ j. T (f j)) (let e : n ≡ i = omega arith in e) (and_yes (all_below n f) (f n) t).1

pub all_below_lem : (n : ℕ) (f : ℕ → Bool) → ((i : ℕ) → i < n → T (f i)) → T (all_below n f)
unfolding all_below
all_below_lem zero f h = tt
all_below_lem (suc n) f h = yes_and (all_below n f) (f n) (all_below_lem n f (λ i l. h i (omega arith))) (h n (omega arith))

pub all_below-and : (n : ℕ) (f g : ℕ → Bool) → all_below n (λ i. f i && g i) ≡ (all_below n f && all_below n g)
unfolding all_below
all_below-and zero f g = refl
all_below-and (suc n) f g = rw (all_below-and n f g) (and_swap (all_below n f) (all_below n g) (f n) (g n))

pub all_below-front : (n : ℕ) (f : ℕ → Bool) → all_below (suc n) f ≡ (f 0 && all_below n (λ i. f (suc i)))
unfolding all_below
all_below-front zero f = sym (and-true (f 0))
all_below-front (suc n) f = rw (all_below-front n f) (and_assoc (f 0) (all_below n (λ i. f (suc i))) (f (suc n)))

pub all_below_ext : (n : ℕ) (f g : ℕ → Bool) → ((i : ℕ) → i < n → f i ≡ g i) → all_below n f ≡ all_below n g
unfolding all_below
all_below_ext zero f g h = refl
all_below_ext (suc n) f g h = rw (all_below_ext n f g (λ i b. h i (omega arith)), h n (omega arith))

-- ---- one number more, as a loop counts: a walk goes on while the test holds, and ends where it fails

pub all_below_none : (f : ℕ → Bool) → all_below 0 f ≡ true
unfolding all_below
all_below_none f = refl

pub all_below-step : (n : ℕ) (f : ℕ → Bool) → all_below (n + 1) f ≡ (all_below n f && f n)
all_below-step n f = rw (add-one n) (unfold all_below in refl)

pub all_below_more : (n : ℕ) (f : ℕ → Bool) → all_below n f ≡ true → f n ≡ true → all_below (n + 1) f ≡ true
all_below_more n f h q = rw (all_below-step n f, h, q)

pub all_below_fails : (n : ℕ) (f : ℕ → Bool) (i : ℕ) → i < n → f i ≡ false → all_below n f ≡ false
unfolding all_below
all_below_fails zero f i l q = absurd (omega arith)
all_below_fails (suc n) f i l q = go (all_below n f) (λ k. all_below_fails n f i k q) (dec_lt i n)
  where
    go : (b : Bool) → (i < n → b ≡ false) → Dec (i < n) → (b && f n) ≡ false
    go b r (yes k) = rw (r k)
    go true r (no k) = subst (λ j. f j ≡ false) (let e : i ≡ n = omega arith in e) q
    go false r (no k) = refl

-- ---- the first number at which the test fails

pub first_not_all : (n : ℕ) (f : ℕ → Bool) → all_below n f ≡ true → first_not n f ≡ n
unfolding first_not
first_not_all zero f h = refl
first_not_all (suc n) f h = rw h

-- all below i hold and i does not
pub first_not_is : (n : ℕ) (f : ℕ → Bool) (i : ℕ) → i < n → all_below i f ≡ true → f i ≡ false → first_not n f ≡ i
unfolding first_not
first_not_is zero f i l h q = absurd (omega arith)
first_not_is (suc n) f i l h q = rw (all_below_fails (suc n) f i l q) (go (first_not_is n f i) (dec_lt i n))
  where
    go : (i < n → all_below i f ≡ true → f i ≡ false → first_not n f ≡ i) → Dec (i < n) → first_not n f ≡ i
    go r (yes k) = r k h q
    go r (no k) = let e : i ≡ n = omega arith in subst (λ j. first_not n f ≡ j) (sym e) (first_not_all n f (subst (λ j. all_below j f ≡ true) e h))

-- f fails there, and at no lower number
pub record FirstNot (n : ℕ) (f : ℕ → Bool) (i : ℕ) : Type 0 where
  pub below : i < n
  pub fails : T (not (f i))
  pub lowest : (j : ℕ) → j < i → T (f j)

pub first_not_lem : (n : ℕ) (f : ℕ → Bool) → T (not (all_below n f)) → FirstNot n f (first_not n f)
unfolding first_not all_below
first_not_lem zero f t = absurd t
first_not_lem (suc n) f t =
    cond_elim (FirstNot (suc n) f) (all_below n f && f n) (λ a. absurd (T_not (all_below n f && f n) a t)) (λ b. go (all_below n f) refl (first_not_lem n f))
  where
    go : (b : Bool) → all_below n f ≡ b → (T (not (all_below n f)) → FirstNot n f (first_not n f)) → FirstNot (suc n) f (first_not n f)
    go true e r = rw (first_not_all n f e) (record {
      below = omega arith;
      fails = subst (λ b. T (not (b && f n))) e t;
      lowest = all_below-at n f (subst T (sym e) tt);
    })
    go false e r =
        let k = r (subst (λ b. T (not b)) (sym e) tt) in
        let l = k.below in
        record { below = omega arith; fails = k.fails; lowest = k.lowest }

pub first_not_ext : (n : ℕ) (f g : ℕ → Bool) → ((i : ℕ) → i < n → f i ≡ g i) → first_not n f ≡ first_not n g
unfolding first_not
first_not_ext zero f g h = refl
first_not_ext (suc n) f g h = rw (all_below_ext (suc n) f g h, first_not_ext n f g (λ i b. h i (omega arith)))

-- ---- a claim of every number below n, one number after the other: first _ 1 (claim of 0) (first _ 0 (claim of 1) (none _))

pub none : (P : ℕ → Type 0) (n : ℕ) → n < 0 → P n
none P n h = absurd (omega arith)

pub first : (P : ℕ → Type 0) (k : ℕ) → P 0 → ((n : ℕ) → n < k → P (suc n)) → (n : ℕ) → n < suc k → P n
first P k p q zero h = p
first P k p q (suc n) h = q n (omega arith)
