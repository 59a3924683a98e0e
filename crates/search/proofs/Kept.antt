-- A node's kept places follow its records. In order: what is stored, and the range of a place; the kept places one by one; the same records stored; one record more, which is
-- one comparison.
use Prim.Native.Nat.{ℕ, ◌+◌, ◌-◌, ◌≤◌, ◌<◌}
use native.Mathlib.Omega.{arith}
use mathlib.Core.Path.{◌≡◌, refl, sym, ap, ◌∙◌}
use mathlib.Core.List.{List, [], ◌∷◌, ◌++◌}
use lib.ListN.{length, get_or, length-append, get_or-append}
use lib.Seq.{get_or_at}
use borrow.Author.Tests.{eq-eqb, ne_eqb}
use Rattle.codec.specs.Le.{load, put}
use Rattle.codec.proofs.Le.{load_byte}
use Rattle.codec.proofs.Tabulate.{tab_length, tab_at, tab_is, tab_ext, tab_put}
use Rattle.protocol.specs.Record.{Setting, Rec, of_key}
use Rattle.protocol.specs.Search.{later_place, better_place, newest_place}
use Rattle.protocol.proofs.Places.{place-step, place-at_most, place_ext, better_fit, better_unfit}
use Rattle.record.specs.RecordBytes.{record_at}
use Rattle.parts.specs.Node.{slot_at, held_in, store_in}
use Rattle.search.specs.Kept.{place_in, places_in}

abbrev record_in : List ℕ → ℕ → Rec
record_in n i = record_at n (slot_at i)

-- ---- what is stored

pub held_length : (n : List ℕ) → length (store_in n) ≡ held_in n
unfolding store_in
held_length n = tab_length (held_in n) (record_in n)

record_store : (n : List ℕ) (d : Rec) (i : ℕ) → i < held_in n → get_or (store_in n) i d ≡ record_in n i
unfolding store_in
record_store n d i h = tab_at (held_in n) (record_in n) d i h

pub place_held : (c : Setting) (n : List ℕ) (k : ℕ) → place_in c n k ≤ held_in n
unfolding place_in
place_held c n k = place-at_most c (of_key k) (record_in n) (held_in n)

-- ---- the kept places, one by one

module _ (c : Setting) (n : List ℕ) where
  pub length_places : length (places_in c n) ≡ 64
  unfolding places_in
  length_places = tab_length 64 (place_in c n)

  pub places_at : (k : ℕ) → k < 64 → get_or (places_in c n) k 0 ≡ place_in c n k
  unfolding places_in
  places_at k h = tab_at 64 (place_in c n) 0 k h

  pub places_are : (s : List ℕ) → length s ≡ 64 → ((k : ℕ) → k < 64 → get_or s k 0 ≡ place_in c n k) → s ≡ places_in c n
  unfolding places_in
  places_are s l h = tab_is 64 (place_in c n) s 0 l h

-- ---- n' after n

module _ (c : Setting) (n n' : List ℕ) where
  place_same : store_in n' ≡ store_in n → (k : ℕ) → place_in c n' k ≡ place_in c n k
  unfolding place_in
  place_same e k =
      let held : held_in n' ≡ held_in n = sym (held_length n') ∙ ap length e ∙ held_length n in
      let d = record_in n 0 in
      ap (newest_place c (of_key k) (record_in n')) held
      ∙ place_ext c (of_key k) (record_in n') (record_in n) (held_in n)
      (λ i h. sym (record_store n' d i (omega arith)) ∙ ap (λ (l : List Rec). get_or l i d) e ∙ record_store n d i h)

  pub places_same : store_in n' ≡ store_in n → places_in c n' ≡ places_in c n
  unfolding places_in
  places_same e = tab_ext 64 (place_in c n') (place_in c n) (λ k h. place_same e k)

  module _ (r : Rec) (e : store_in n' ≡ store_in n ++ (r ∷ [])) where
    pub held_grown : held_in n' ≡ held_in n + 1
    held_grown = sym (held_length n') ∙ ap length e ∙ length-append (store_in n) (r ∷ []) ∙ ap (λ (k : ℕ). k + 1) (held_length n)

    old_grown : (i : ℕ) → i < held_in n → record_in n' i ≡ record_in n i
    old_grown i h =
        sym (record_store n' r i (omega (arith, held_grown)))
        ∙ ap (λ (l : List Rec). get_or l i r) e
        ∙ get_or-append (store_in n) (r ∷ []) r i (omega (arith, held_length n))
        ∙ record_store n r i h

    new_grown : record_in n' (held_in n) ≡ r
    new_grown =
        sym (record_store n' r (held_in n) (omega (arith, held_grown)))
        ∙ ap (λ (l : List Rec). get_or l (held_in n) r) e
        ∙ get_or_at (store_in n) r [] r (held_in n) (held_length n)

    place_grown : (k : ℕ) → place_in c n' k ≡ better_place c (of_key k) (record_in n') (held_in n) (place_in c n k)
    unfolding place_in
    place_grown k =
        ap (newest_place c (of_key k) (record_in n')) held_grown
        ∙ place-step c (of_key k) (record_in n') (held_in n)
        ∙ ap (better_place c (of_key k) (record_in n') (held_in n)) (place_ext c (of_key k) (record_in n') (record_in n) (held_in n) old_grown)

    -- the key of the new record, and another
    place_here : place_in c n' r.id.key ≡ later_place c (record_in n') (held_in n' - 1) (place_in c n r.id.key)
    unfolding of_key
    place_here =
        let last : held_in n' - 1 ≡ held_in n = omega (arith, held_grown) in
        rw last
        (place_grown r.id.key
        ∙ sym (better_fit c (of_key r.id.key) (record_in n') (held_in n) (place_in c n r.id.key) (ap (of_key r.id.key) new_grown ∙ eq-eqb r.id.key r.id.key refl)))

    place_there : (k : ℕ) → (k ≡ r.id.key → ⊥) → place_in c n' k ≡ place_in c n k
    unfolding of_key
    place_there k d =
        place_grown k
        ∙ sym (better_unfit c (of_key k) (record_in n') (held_in n) (place_in c n k) (ap (of_key k) new_grown ∙ ne_eqb r.id.key k (λ q. d (sym q))))

    -- the one byte of its key is compared with the kept one, and set
    pub places_grown : r.id.key < 64 → held_in n < 32 →
        put 1 (places_in c n) r.id.key (later_place c (record_in n') (held_in n' - 1) (load 1 (places_in c n) r.id.key)) ≡ places_in c n'
    unfolding places_in
    places_grown h room =
        let k = r.id.key in
        let kept : load 1 (places_in c n) k ≡ place_in c n k = load_byte (places_in c n) k ∙ places_at c n k h in
        rw (kept, ← place_here)
        (tab_put 64 (place_in c n) (place_in c n') k h (omega (arith, place_held c n' k, held_grown)) place_there)
