-- The search by places is the protocol's search for the newest. In order: what stands at a place, one more record that fits, that what is placed is the newest, one
-- more record that fits or not, the place's range, that the record there fits, and that the place is the same over records that agree.
use Prim.Native.Nat.{ℕ, zero, suc, ◌+◌, ◌-◌, ◌≤◌, ◌<◌}
use native.Mathlib.Numerals.{add-one}
use native.Mathlib.Omega.{arith}
use mathlib.Core.Path.{◌≡◌, refl, sym, ap, ◌∙◌}
use mathlib.Core.Bool.{Bool, true, false, cond, ◌||◌}
use mathlib.Core.Logic.{◌≢◌}
use mathlib.Core.Option.{some, none}
use lib.Dec.{T, eqb, eqb-suc-zero}
use Rattle.codec.specs.Tabulate.{tabulate}
use Rattle.codec.proofs.Tabulate.{tab_more}
use Rattle.protocol.specs.Record.{Setting, Rec, newer, newest}
use Rattle.protocol.specs.Search.{later_place, better_place, newest_place, placed}
use Rattle.protocol.proofs.Search.{later_of, newest_snoc}

-- ---- what stands at a place

module _ (f : ℕ → Rec) where
  pub placed_none : (b : ℕ) → b ≡ 0 → placed f b ≡ none
  unfolding placed
  placed_none b z = rw z

  pub placed_some : (b : ℕ) → (b ≡ 0 → ⊥) → placed f b ≡ some (f (b - 1))
  unfolding placed
  placed_some zero z = absurd (z refl)
  placed_some (suc i) z =
      let e : suc i - 1 ≡ i = omega arith in
      rw e

module _ (c : Setting) (f : ℕ → Rec) where
  -- ---- one more record that fits

  abbrev is_later_lem : (n b : ℕ) → Bool
  is_later_lem n b = eqb b 0 || newer c (f n).id (f (b - 1)).id

  pub later_yes : (n b : ℕ) → is_later_lem n b ≡ true → n + 1 ≡ later_place c f n b
  unfolding later_place
  later_yes n b e = rw e (add-one n)

  pub later_no : (n b : ℕ) → is_later_lem n b ≡ false → b ≡ later_place c f n b
  unfolding later_place
  later_no n b e = rw e

  later_some : (n i : ℕ) → later_place c f n (suc i) ≡ cond (newer c (f n).id (f i).id) (suc n) (suc i)
  unfolding later_place
  later_some n i =
      let e : suc i - 1 ≡ i = omega arith in
      rw (e, eqb-suc-zero i)

  pub later_at_most : (n b k : ℕ) → n < k → b ≤ k → later_place c f n b ≤ k
  unfolding later_place
  later_at_most n b k g h = go (is_later_lem n b)
    where
      go : (a : Bool) → cond a (suc n) b ≤ k
      go true = omega arith
      go false = omega arith

module _ (c : Setting) (fit : Rec → Bool) (f : ℕ → Rec) where
  -- one more record behind those before it, as the list and as the place have it
  later_is_better : (n b : ℕ) → cond (fit (f n)) (some (later_of c (f n) (placed f b))) (placed f b) ≡ placed f (better_place c fit f n b)
  unfolding better_place
  later_is_better n b = go (fit (f n)) b
    where
      taken : (b : ℕ) → some (later_of c (f n) (placed f b)) ≡ placed f (later_place c f n b)
      taken zero = unfold later_of placed later_place in refl
      taken (suc i) = unfold later_of placed in rw (later_some c f n i) (pick (newer c (f n).id (f i).id))
        where
          pick : (d : Bool) → some (cond d (f n) (f i)) ≡ placed f (cond d (suc n) (suc i))
          pick true = unfold placed in refl
          pick false = unfold placed in refl

      go : (a : Bool) (b : ℕ) → cond a (some (later_of c (f n) (placed f b))) (placed f b) ≡ placed f (cond a (later_place c f n b) b)
      go true b = taken b
      go false b = refl

  pub newest_is_placed : (n : ℕ) → newest c fit (tabulate n f) ≡ placed f (newest_place c fit f n)
  unfolding tabulate newest newest_place placed
  newest_is_placed zero = refl
  newest_is_placed (suc n) =
      ap (λ (k : ℕ). newest c fit (tabulate k f)) (sym (add-one n))
      ∙ ap (newest c fit) (tab_more n f f (f n) (λ i h. refl) refl)
      ∙ newest_snoc c fit (tabulate n f) (f n)
      ∙ ap (λ o. cond (fit (f n)) (some (later_of c (f n) o)) o) (newest_is_placed n)
      ∙ later_is_better n (newest_place c fit f n)

  -- ---- one more record, that fits or not

  pub better_unfit : (n b : ℕ) → fit (f n) ≡ false → b ≡ better_place c fit f n b
  unfolding better_place
  better_unfit n b e = rw e

  pub better_fit : (n b : ℕ) → fit (f n) ≡ true → later_place c f n b ≡ better_place c fit f n b
  unfolding better_place
  better_fit n b e = rw e

  -- ---- the place as a loop counts it

  pub place_none : newest_place c fit f 0 ≡ 0
  unfolding newest_place
  place_none = refl

  pub place-step : (n : ℕ) → newest_place c fit f (n + 1) ≡ better_place c fit f n (newest_place c fit f n)
  unfolding newest_place
  place-step n = rw (add-one n)

  better_at_most : (n b : ℕ) → b ≤ n → better_place c fit f n b ≤ suc n
  unfolding better_place
  better_at_most n b h = go (fit (f n))
    where
      go : (a : Bool) → cond a (later_place c f n b) b ≤ suc n
      go true = later_at_most c f n b (suc n) (omega arith) (omega arith)
      go false = omega arith

  pub place-at_most : (n : ℕ) → newest_place c fit f n ≤ n
  unfolding newest_place
  place-at_most zero = omega arith
  place-at_most (suc n) = better_at_most n (newest_place c fit f n) (place-at_most n)

  -- what stands at place b fits
  abbrev Fitting : ℕ → Type 0
  Fitting b = b ≢ 0 → T (fit (f (b - 1)))

  better_fits : (n b : ℕ) → Fitting b → Fitting (better_place c fit f n b)
  unfolding better_place later_place
  better_fits n b h = go (fit (f n)) (eqb b 0 || newer c (f n).id (f (b - 1)).id) refl
    where
      go : (a d : Bool) → fit (f n) ≡ a → Fitting (cond a (cond d (suc n) b) b)
      go true true e p =
          let k : suc n - 1 ≡ n = omega arith in
          rw (k, e) tt
      go true false e p = h p
      go false d e p = h p

  pub place-fits : (n : ℕ) → newest_place c fit f n ≢ 0 → T (fit (f (newest_place c fit f n - 1)))
  unfolding newest_place
  place-fits zero p = absurd (p refl)
  place-fits (suc n) p = better_fits n (newest_place c fit f n) (place-fits n) p

-- ---- the place over records that agree

module _ (c : Setting) (fit : Rec → Bool) (f g : ℕ → Rec) where
  pub place_ext : (n : ℕ) → ((i : ℕ) → i < n → f i ≡ g i) → newest_place c fit f n ≡ newest_place c fit g n
  unfolding newest_place
  place_ext zero h = refl
  place_ext (suc n) h =
      let b = newest_place c fit g n in
      let small = place-at_most c fit g n in
      ap (better_place c fit f n) (place_ext n (λ i l. h i (omega arith)))
      ∙ better_ext n b (h n (omega arith)) (h (b - 1) (omega arith))
    where
      better_ext : (n b : ℕ) → f n ≡ g n → f (b - 1) ≡ g (b - 1) → better_place c fit f n b ≡ better_place c fit g n b
      better_ext n b e d = unfold better_place later_place in rw (e, d)
