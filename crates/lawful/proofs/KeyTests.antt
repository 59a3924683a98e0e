-- The tests of page keys with one key more behind: all in range, k among them, all different. In order: of any list; of a function's first n
-- values, as tests of every number below n; and a session's page by its bytes.
use mathlib.Core.Path.{◌≡◌, refl, sym, ap, ◌∙◌}
use mathlib.Core.Bool.{Bool, true, false, not, ◌&&◌, ◌||◌, and-true, and_assoc, or-false, or_assoc}
use mathlib.Core.List.{List, [], ◌∷◌, ◌++◌}
use Prim.Native.Nat.{ℕ, zero, suc, ◌+◌}
use native.Mathlib.Decide.{ℕ_discrete}
use native.Mathlib.Numerals.{add-one}
use borrow.Author.Tests.{eq-eqb, ne_eqb}
use lib.Dec.{leb, ltb, eqb}
use Rattle.codec.specs.Le.{load}
use Rattle.codec.specs.Below.{all_below}
use Rattle.codec.specs.Tabulate.{tabulate}
use Rattle.codec.specs.Tests.{every}
use Rattle.codec.proofs.Tests.{and_swap}
use Rattle.codec.proofs.Tabulate.{tab_length, tab_more, tab_none}
use Rattle.vector.specs.Entries.{load_vec}
use Rattle.protocol.specs.Record.{Setting}
use Rattle.protocol.specs.State.{Mark}
use Rattle.codec.specs.Lists.{has}
use Rattle.protocol.specs.Needs.{keys_lawful, distinct}
use Rattle.record.specs.Ranges.{vec_lawful}
use Rattle.parts.specs.Session.{mark_at, session_in}
use Rattle.lawful.specs.LawfulValues.{keys_of, page_lawful}

-- ---- a list

eqb_sym : (m n : ℕ) → eqb m n ≡ eqb n m
eqb_sym m n = go (ℕ_discrete m n)
  where
    go : Dec (m ≡ n) → eqb m n ≡ eqb n m
    go (yes e) = eq-eqb m n e ∙ sym (eq-eqb n m (sym e))
    go (no d) = ne_eqb m n d ∙ sym (ne_eqb n m (λ e. d (sym e)))

keys_lawful_snoc : (ks : List ℕ) (k : ℕ) → keys_lawful (ks ++ (k ∷ [])) ≡ (keys_lawful ks && ltb k 64)
unfolding keys_lawful
keys_lawful_snoc [] k = and-true (ltb k 64)
keys_lawful_snoc (j ∷ ks) k = rw (keys_lawful_snoc ks k) (sym (and_assoc (ltb j 64) (keys_lawful ks) (ltb k 64)))

has_snoc : (k : ℕ) (ks : List ℕ) (j : ℕ) → has (ks ++ (j ∷ [])) k ≡ (has ks k || eqb j k)
has_snoc k [] j = or-false (eqb j k)
has_snoc k (i ∷ ks) j = rw (has_snoc k ks j) (sym (or_assoc (eqb i k) (has ks k) (eqb j k)))

-- a: the first key is one of those between, b: it is the last, c: the last is one of those between, d: those between differ
either_end : (a b c d : Bool) → (not (a || b) && (d && not c)) ≡ (not a && d && not (b || c))
either_end true b c d = refl
either_end false true c true = refl
either_end false true c false = refl
either_end false false c d = refl

distinct_snoc : (ks : List ℕ) (k : ℕ) → distinct (ks ++ (k ∷ [])) ≡ (distinct ks && not (has ks k))
unfolding distinct
distinct_snoc [] k = refl
distinct_snoc (j ∷ ks) k =
    rw (has_snoc j ks k, distinct_snoc ks k, eqb_sym k j) (either_end (has ks j) (eqb j k) (has ks k) (distinct ks))

neither : (a b : Bool) → not (a || b) ≡ (not a && not b)
neither true b = refl
neither false b = refl

-- ---- a function's first values

module _ (f : ℕ → ℕ) where
  tabulate_more : (n : ℕ) → tabulate (n + 1) f ≡ tabulate n f ++ (f n ∷ [])
  tabulate_more n = tab_more n f f (f n) (λ i l. refl) refl

  -- a test of lists that joins t of each value is the test t of every number below n
  counted : (g : List ℕ → Bool) (t : ℕ → Bool) → g [] ≡ true → ((n : ℕ) → g (tabulate n f ++ (f n ∷ [])) ≡ (g (tabulate n f) && t n))
      → (n : ℕ) → g (tabulate n f) ≡ all_below n t
  unfolding all_below
  counted g t none more zero = ap g (tab_none f) ∙ none
  counted g t none more (suc n) =
      ap (λ (k : ℕ). g (tabulate k f)) (sym (add-one n)) ∙ ap g (tabulate_more n) ∙ more n ∙ ap (λ (b : Bool). b && t n) (counted g t none more n)

  pub has_none : (k n : ℕ) → not (has (tabulate n f) k) ≡ all_below n (λ i. not (eqb (f i) k))
  has_none k n =
      counted (λ ks. not (has ks k)) (λ i. not (eqb (f i) k)) refl
      (λ m. ap not (has_snoc k (tabulate m f) (f m)) ∙ neither (has (tabulate m f) k) (eqb (f m) k)) n

  -- each key is in range, and none of those before it
  pub keys_all : (n : ℕ) → (keys_lawful (tabulate n f) && distinct (tabulate n f)) ≡ all_below n (λ i. ltb (f i) 64 && not (has (tabulate i f) (f i)))
  unfolding keys_lawful distinct
  keys_all n =
      counted (λ ks. keys_lawful ks && distinct ks) (λ i. ltb (f i) 64 && not (has (tabulate i f) (f i))) refl
      (λ m.
      rw (keys_lawful_snoc (tabulate m f) (f m), distinct_snoc (tabulate m f) (f m))
      (and_swap (keys_lawful (tabulate m f)) (ltb (f m) 64) (distinct (tabulate m f)) (not (has (tabulate m f) (f m)))))
      n

-- ---- a session's page

keys_of-tabulate : (n : ℕ) (f : ℕ → Mark) → keys_of (tabulate n f) ≡ tabulate n (λ i. (f i).key)
unfolding keys_of tabulate
keys_of-tabulate zero f = refl
keys_of-tabulate (suc n) f = ap (λ (l : List ℕ). (f 0).key ∷ l) (keys_of-tabulate n (λ i. f (suc i)))

-- the keys of the session's page
abbrev pub page_keys : List ℕ → List ℕ
page_keys b = tabulate (load 1 b 3) (λ i. load 1 b (8 + i))

pub page_lawful_in : (c : Setting) (b : List ℕ) → page_lawful c (session_in b).page ≡ every
    (leb (load 1 b 3) 8
    ∷ (not (eqb (load 1 b 2) 1) || every (ltb 0 (load 1 b 3) ∷ keys_lawful (page_keys b) ∷ distinct (page_keys b) ∷ []))
    ∷ vec_lawful c (load_vec b 64)
    ∷ vec_lawful c (load_vec b 96) ∷ [])
unfolding page_lawful session_in mark_at
page_lawful_in c b = rw (keys_of-tabulate (load 1 b 3) (mark_at b), tab_length (load 1 b 3) (mark_at b))
