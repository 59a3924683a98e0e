-- The laws of a function's first n values. In order: their number, each of them, functions that agree, one more behind, and one less in front, which are all
-- that a store's slots and a channel's ring need; what holds of each; an array that is filled; and one byte set.
use Prim.Native.Nat.{ℕ, zero, suc, ◌+◌, ◌-◌, ◌<◌}
use native.Mathlib.Numerals.{add-one}
use native.Mathlib.Omega.{arith}
use native.Mathlib.Decide.{ℕ_discrete}
use mathlib.Core.Path.{◌≡◌, refl, ap, ap₂, ◌∙◌, sym, subst}
use mathlib.Core.List.Memᴰ
use mathlib.Core.List.{List, [], ◌∷◌, ◌++◌, tail, Memᴰ}
use mathlib.Core.Logic.{◌⊎◌, inl, inr}
use lib.ListN.{length, get_or, set}
use lib.Seq.{ext_get_or, get_or-set_same, get_or-set_other}
use borrow.Author.Count.{below_more}
use Rattle.codec.specs.Le.{put, span}
use Rattle.codec.specs.Tabulate.{tabulate}
use Rattle.codec.proofs.Le.{length-put, get_or-put-other, load_byte, load-put}

module _ {ℓ} {A : Type ℓ} where
  pub tab_length : (n : ℕ) (f : ℕ → A) → length (tabulate n f) ≡ n
  unfolding tabulate
  tab_length zero f = refl
  tab_length (suc n) f = ap suc (tab_length n (λ i. f (suc i)))

  pub tab_at : (n : ℕ) (f : ℕ → A) (d : A) (i : ℕ) → i < n → get_or (tabulate n f) i d ≡ f i
  unfolding tabulate
  tab_at zero f d i h = absurd (omega arith)
  tab_at (suc n) f d zero h = refl
  tab_at (suc n) f d (suc i) h = tab_at n (λ i. f (suc i)) d i (omega arith)

  pub tab_ext : (n : ℕ) (f g : ℕ → A) → ((i : ℕ) → i < n → f i ≡ g i) → tabulate n f ≡ tabulate n g
  unfolding tabulate
  tab_ext zero f g h = refl
  tab_ext (suc n) f g h = ap₂ ◌∷◌ (h 0 (omega arith)) (tab_ext n (λ i. f (suc i)) (λ i. g (suc i)) (λ i l. h (suc i) (omega arith)))

  pub tab_snoc : (n : ℕ) (f : ℕ → A) → tabulate (suc n) f ≡ tabulate n f ++ (f n ∷ [])
  unfolding tabulate
  tab_snoc zero f = refl
  tab_snoc (suc n) f = ap (λ l. f 0 ∷ l) (tab_snoc n (λ i. f (suc i)))

  -- one more behind
  pub tab_more : (n : ℕ) (f g : ℕ → A) (a : A) → ((i : ℕ) → i < n → g i ≡ f i) → g n ≡ a → tabulate (n + 1) g ≡ tabulate n f ++ (a ∷ [])
  tab_more n f g a same last =
      ap (λ (k : ℕ). tabulate k g) (add-one n) ∙ tab_snoc n g ∙ ap₂ (λ (l : List A) (x : A). l ++ (x ∷ [])) (tab_ext n g f same) last

  -- one less in front
  pub tab_tail : (n : ℕ) (f g : ℕ → A) → ((i : ℕ) → i + 1 < n → g i ≡ f (i + 1)) → tabulate (n - 1) g ≡ tail (tabulate n f)
  unfolding tabulate
  tab_tail zero f g h = refl
  tab_tail (suc n) f g h =
      let less : suc n - 1 ≡ n = omega arith in
      ap (λ (k : ℕ). tabulate k g) less ∙ tab_ext n g (λ i. f (suc i)) (λ i l. h i (omega arith) ∙ ap f (add-one i))

  -- a list of n elements that are f's is the one tabulated
  pub tab_is : (n : ℕ) (f : ℕ → A) (l : List A) (d : A) → length l ≡ n → ((i : ℕ) → i < n → get_or l i d ≡ f i) → l ≡ tabulate n f
  tab_is n f l d q h = ext_get_or d l (tabulate n f) (q ∙ sym (tab_length n f)) (λ i b. h i (omega arith) ∙ sym (tab_at n f d i (omega arith)))

  pub tab_none : (f : ℕ → A) → tabulate 0 f ≡ []
  unfolding tabulate
  tab_none f = refl

-- what holds of a function's first n values holds of each element of their list
pub tab_each : {A : Type 0} (P : A → Type 0) (n : ℕ) (f : ℕ → A) → ((i : ℕ) → i < n → P (f i)) → (a : A) → Memᴰ a (tabulate n f) → P a
unfolding tabulate
tab_each P zero f h a m = absurd (Memᴰ.not-nil m)
tab_each P (suc n) f h a m = go (tab_each P n (λ i. f (suc i)) (λ i l. h (suc i) (omega arith)) a) (Memᴰ.cases_cons m)
  where
    go : (Memᴰ a (tabulate n (λ i. f (suc i))) → P a) → (a ≡ f 0) ⊎ (Memᴰ a (tabulate n (λ i. f (suc i)))) → P a
    go r (inl e) = subst P (sym e) (h 0 (omega arith))
    go r (inr k) = r k

-- one element more of an array that is filled from the front
pub filled_more : {A : Type 0} (f : ℕ → A) (e : List A) (i : ℕ) (x d : A) → i < length e → ((k : ℕ) → k < i → get_or e k d ≡ f k) → x ≡ f i → (k : ℕ) → k < i + 1 → get_or (set e i x) k d ≡ f k
filled_more f e i x d l h q =
    below_more (λ k. get_or (set e i x) k d ≡ f k) i (λ k b. get_or-set_other e i k x d (omega arith) ∙ h k b) (get_or-set_same e i x d l ∙ q)

-- one byte set
pub tab_put : (n : ℕ) (f g : ℕ → ℕ) (k : ℕ) → k < n → g k < 256 → ((i : ℕ) → (i ≡ k → ⊥) → g i ≡ f i) → put 1 (tabulate n f) k (g k) ≡ tabulate n g
unfolding span
tab_put n f g k h small same = tab_is n g (put 1 l k (g k)) 0 (length-put 1 l k (g k) ∙ tab_length n f) (λ i b. go i b (ℕ_discrete i k))
  where
    l : List ℕ
    l = tabulate n f

    here : get_or (put 1 l k (g k)) k 0 ≡ g k
    here = sym (load_byte (put 1 l k (g k)) k) ∙ load-put 1 l k (g k) (omega (arith, tab_length n f)) (omega arith)

    go : (i : ℕ) → i < n → Dec (i ≡ k) → get_or (put 1 l k (g k)) i 0 ≡ g i
    go i b (yes e) = rw e here
    go i b (no d) = get_or-put-other 1 l k (g k) i (λ u v. d (omega arith)) ∙ tab_at n f 0 i b ∙ sym (same i d)
