-- The laws of a list of fields: its length, a load outside of it or beside its fields, and what was put is shown, field by field. Each takes the tests of
-- specs/FieldTests, which antt computes for fields at literal places.
use mathlib.Core.Path.{◌≡◌, refl, ◌∙◌}
use mathlib.Core.Bool.{Bool, true, false, ◌||◌}
use mathlib.Core.List.{List, [], ◌∷◌}
use Prim.Native.Nat.{ℕ, ◌+◌, ◌≤◌}
use native.Mathlib.Omega.{arith}
use lib.Dec.{T, leb, leb→le}
use lib.ListN.{length}
use mir.Facts.{and_yes}
use Rattle.codec.specs.Le.{load, put, Apart}
use Rattle.codec.specs.Fields.{Field, field, put_all}
use Rattle.codec.specs.FieldTests.{within, clear, distinct, Small, Shows}
use Rattle.codec.proofs.Le.{length-put, load-put, load-put-other}

T-or : {X : Type 0} (a b : Bool) → T (a || b) → (T a → X) → (T b → X) → X
T-or true b h f g = f tt
T-or false b h f g = g h

pub length-put_all : (at : ℕ) (fs : List Field) (t : List ℕ) → length (put_all at fs t) ≡ length t
length-put_all at [] t = refl
length-put_all at (field p w x ∷ fs) t = length-put_all at fs (put w t (at + p) x) ∙ length-put w t (at + p) x

-- a load outside of the run
pub load-put_all-other : (at n : ℕ) (fs : List Field) (t : List ℕ) (w j : ℕ) → T (within n fs) → Apart j w at n → load w (put_all at fs t) j ≡ load w t j
load-put_all-other at n [] t w j h o = refl
load-put_all-other at n (field p v x ∷ fs) t w j h o =
    let g = and_yes (leb (p + v) n) (within n fs) h in
    let ends = leb→le (p + v) n g.0 in
    load-put_all-other at n fs (put v t (at + p) x) w j g.1 o
    ∙ load-put-other w v t (at + p) x j (λ k a b c d. o k a b (omega arith) (omega arith))

-- a load in the run that the fields leave clear
load-put_all-clear : (at : ℕ) (fs : List Field) (t : List ℕ) (w j : ℕ) → T (clear j w fs) → load w (put_all at fs t) (at + j) ≡ load w t (at + j)
load-put_all-clear at [] t w j h = refl
load-put_all-clear at (field p v x ∷ fs) t w j h =
    let before = leb (j + w) p in
    let after = leb (p + v) j in
    let g = and_yes (before || after) (clear j w fs) h in
    load-put_all-clear at fs (put v t (at + p) x) w j g.1
    ∙ load-put-other w v t (at + p) x (at + j)
    (λ k a b c d. T-or before after g.0 (λ u. omega (arith, leb→le (j + w) p u)) (λ u. omega (arith, leb→le (p + v) j u)))

pub shows : (at n : ℕ) (fs : List Field) (t : List ℕ) → at + n ≤ length t → T (within n fs) → T (distinct fs) → Small fs → Shows at (put_all at fs t) fs
shows at n [] t fit h d s = tt
shows at n (field p w x ∷ fs) t fit h d s =
    let g = and_yes (leb (p + w) n) (within n fs) h in
    let e = and_yes (clear p w fs) (distinct fs) d in
    let ends = leb→le (p + w) n g.0 in
    let u = put w t (at + p) x in (
      load-put_all-clear at fs u w p e.0 ∙ load-put w t (at + p) x (omega arith) s.0,
      shows at n fs u (omega (arith, length-put w t (at + p) x)) g.1 e.1 s.1,
    )
