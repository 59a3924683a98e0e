-- The check of the kept places. In order: one record more beside the newest of each key so far, all records; 64 bytes compared as eight words; what is
-- compared is what is kept; and the order of the tests.
use Prim.Native.Nat.{ℕ, ◌+◌, ◌*◌, ◌/◌, ◌%◌, ◌≤◌, ◌<◌}
use native.Mathlib.Omega.{arith}
use native.Mathlib.Decide.{ℕ_discrete}
use mathlib.Core.Path.{◌≡◌, sym, ap, subst, ◌∙◌}
use mathlib.Core.Bool.{Bool, ◌&&◌}
use mathlib.Core.List.{List}
use lib.Dec.{T, eqb, eqb→eq}
use lib.ListN.{length, get_or, set}
use lib.Seq.{get_or-set_same, get_or-set_other}
use borrow.Author.Tests.{eq-eqb, ne_eqb}
use Rattle.codec.specs.Le.{load, Bytes}
use Rattle.codec.specs.Below.{all_below}
use Rattle.codec.proofs.Le.{load_byte, load_ext, same_bytes}
use Rattle.codec.proofs.Tests.{same_test, yes_eqb, and_turn}
use Rattle.codec.proofs.Below.{all_below_lem, all_below-at, all_below_ext, all_below-and}
use Rattle.protocol.specs.Record.{Setting, Rec, of_key}
use Rattle.protocol.specs.Search.{later_place, newest_place}
use Rattle.protocol.proofs.Places.{place_none, place-step, place-at_most, better_fit, better_unfit}
use Rattle.record.specs.RecordBytes.{record_at}
use Rattle.parts.specs.Node.{slot_at, held_in}
use Rattle.search.specs.Kept.{place_in, places_in}
use Rattle.search.proofs.Kept.{places_at, places_are}
use Rattle.lawful.specs.WellFormed.{kept_formed}

-- ---- the newest of each key

abbrev record_in : List ℕ → ℕ → Rec
record_in n i = record_at n (slot_at i)

-- best has for each key the place of the newest among the first i records
abbrev pub Bests : (n : List ℕ) (i : ℕ) (best : List ℕ) → Type 0
Bests n i best = (k : ℕ) → k < 64 → (c : Setting) → get_or best k 0 ≡ newest_place c (of_key k) (record_in n) i

module _ (n best : List ℕ) where
  pub bests_none : ((k : ℕ) → k < 64 → get_or best k 0 ≡ 0) → Bests n 0 best
  bests_none h k b c = h k b ∙ sym (place_none c (of_key k) (record_in n))

  -- the place is found over any setting, so its range follows at one
  pub bests_at_most : (i : ℕ) → Bests n i best → (k : ℕ) → k < 64 → get_or best k 0 ≤ i
  bests_at_most i h k b =
      let any : Setting = record { sites = 0; partitions = 0 } in
      rw (h k b any) (place-at_most any (of_key k) (record_in n) i)

  -- one record more, whose key is j: at j it is compared, elsewhere nothing changes
  pub bests_more : (i j x : ℕ) → length best ≡ 64 → j < 64 → (record_in n i).id.key ≡ j → Bests n i best →
      ((c : Setting) → x ≡ later_place c (record_in n) i (get_or best j 0)) → Bests n (i + 1) (set best j x)
  unfolding of_key
  bests_more i j x l b e h q k small c = go (ℕ_discrete k j)
    where
      f : ℕ → Rec
      f = record_in n

      go : Dec (k ≡ j) → get_or (set best j x) k 0 ≡ newest_place c (of_key k) f (i + 1)
      go (yes d) =
          subst (λ m. get_or (set best j x) m 0 ≡ newest_place c (of_key m) f (i + 1)) (sym d)
          (get_or-set_same best j x 0 (omega arith)
          ∙ q c
          ∙ ap (later_place c f i) (h j b c)
          ∙ better_fit c (of_key j) f i (newest_place c (of_key j) f i) (eq-eqb (f i).id.key j e)
          ∙ sym (place-step c (of_key j) f i))
      go (no d) =
          get_or-set_other best j k x 0 d
          ∙ h k small c
          ∙ better_unfit c (of_key k) f i (newest_place c (of_key k) f i) (ne_eqb (f i).id.key k (λ u. d (sym u ∙ e)))
          ∙ sym (place-step c (of_key k) f i)

  pub bests_all : length best ≡ 64 → Bests n (held_in n) best → (c : Setting) → best ≡ places_in c n
  unfolding place_in
  bests_all l h c = places_are c n best l (λ k b. h k b c)

-- ---- bytes and words

pub words_are_bytes : (a b : List ℕ) → Bytes a → Bytes b →
    all_below 8 (λ i. eqb (load 8 a (8 * i)) (load 8 b (8 * i))) ≡ all_below 64 (λ k. eqb (load 1 a k) (load 1 b k))
words_are_bytes a b p q = same_test (all_below 8 words) (all_below 64 bytes) (λ t. all_below_lem 64 bytes (there t)) (λ t. all_below_lem 8 words (back t))
  where
    words : ℕ → Bool
    words i = eqb (load 8 a (8 * i)) (load 8 b (8 * i))

    bytes : ℕ → Bool
    bytes k = eqb (load 1 a k) (load 1 b k)

    there : T (all_below 8 words) → (k : ℕ) → k < 64 → T (bytes k)
    there t k h =
        let i = k / 8 in
        let at : 8 * i + k % 8 ≡ k = omega arith in
        let word = eqb→eq (load 8 a (8 * i)) (load 8 b (8 * i)) (all_below-at 8 words t i (omega arith)) in
        let byte = same_bytes 8 a b (8 * i) (8 * i) p q word (k % 8) (omega arith) in
        yes_eqb (load 1 a k) (load 1 b k) (load_byte a k ∙ subst (λ j. get_or a j 0 ≡ get_or b j 0) at byte ∙ sym (load_byte b k))

    back : T (all_below 64 bytes) → (i : ℕ) → i < 8 → T (words i)
    back t i h =
        yes_eqb (load 8 a (8 * i)) (load 8 b (8 * i))
        (load_ext 8 a b (8 * i) (8 * i)
        (λ k l. sym (load_byte a (8 * i + k)) ∙ eqb→eq (load 1 a (8 * i + k)) (load 1 b (8 * i + k)) (all_below-at 64 bytes t (8 * i + k) (omega arith)) ∙ load_byte b (8 * i + k)))

-- ---- the bytes s beside the places

pub kept-bytes : (c : Setting) (n s : List ℕ) → all_below 64 (λ k. eqb (load 1 s k) (load 1 (places_in c n) k)) ≡ kept_formed c n s
unfolding kept_formed
kept-bytes c n s =
    all_below_ext 64 (λ k. eqb (load 1 s k) (load 1 (places_in c n) k)) (λ k. eqb (load 1 s k) (place_in c n k))
    (λ k h. ap (eqb (load 1 s k)) (load_byte (places_in c n) k ∙ places_at c n k h))

-- ---- nodes and their kept places tested together

pub tested_together : (n : ℕ) (node kept channels : ℕ → Bool) →
    all_below n (λ p. node p && kept p && channels p) ≡ (all_below n (λ p. node p && channels p) && all_below n kept)
tested_together n node kept channels =
    all_below_ext n (λ p. node p && kept p && channels p) (λ p. node p && channels p && kept p) (λ p h. and_turn (node p) (kept p) (channels p))
    ∙ all_below-and n (λ p. node p && channels p) kept
