-- The keys and marks of a page, in bytes. In order: the byte of a flag; the marks put one after the other, as the code counts; the marks that are loaded.
use Prim.Native.Nat.{ℕ, suc, ◌+◌, ◌-◌, ◌≤◌, ◌<◌}
use native.Mathlib.Nat.{add-zero}
use native.Mathlib.Numerals.{add-one}
use native.Mathlib.Omega.{arith}
use mir.Val.{bool_byte}
use mathlib.Core.Bool.{Bool, true, false}
use mathlib.Core.Path.{◌≡◌, refl, ap}
use mathlib.Core.List.{List}
use lib.Dec.{eqb}
use lib.ListN.{get_or}
use Rattle.codec.specs.Le.{load, put}
use Rattle.codec.specs.Tabulate.{tabulate}
use Rattle.codec.proofs.Tabulate.{tab_ext}
use Rattle.protocol.specs.State.{Mark}
use Rattle.parts.specs.declared.Marks.{Marks}
use Rattle.parts.specs.Pages.{mark_of, marks_on}
use Rattle.parts.specs.Session.{flag, mark_at, put_marks}
use Rattle.parts.proofs.Backward.{from_to, from_all}

-- a flag is the byte that a `bool` converts to
pub flag_is : (b : Bool) → bool_byte b ≡ flag b
flag_is true = refl
flag_is false = refl

-- ---- the marks from place i on

pub marks_all : (b : List ℕ) (n : ℕ) (f : ℕ → Mark) → put_marks b 0 (from_to 0 n f) ≡ put_marks b 0 (tabulate n f)
marks_all b n f = ap (put_marks b 0) (from_all f n)

pub marks_none : (b : List ℕ) (i n : ℕ) (f : ℕ → Mark) → n ≤ i → put_marks b i (from_to i n f) ≡ b
unfolding tabulate put_marks
marks_none b i n f h =
    let e : n - i ≡ 0 = omega arith in
    rw e

pub marks-step : (b : List ℕ) (i n : ℕ) (f : ℕ → Mark) → i < n → put_marks (put 1 (put 1 b (8 + i) (f i).key) (16 + i) (flag (f i).read)) (i + 1) (from_to (i + 1) n f) ≡ put_marks b i (from_to i n f)
unfolding tabulate put_marks
marks-step b i n f h =
    let e : n - i ≡ suc (n - suc i) = omega arith in
    let rest : from_to (suc i) n f ≡ tabulate (n - suc i) (λ k. f (i + suc k)) = tab_ext (n - suc i) _ _ (λ k b. ap f (omega arith)) in
    rw (add-one i, rest, e, add-zero i)

-- ---- the marks that are loaded

module _ (b : List ℕ) (x : Marks) (ks : (i : ℕ) → i < 8 → get_or x.page.keys i 0 ≡ load 1 b (8 + i)) (ms : (i : ℕ) → i < 8 → get_or x.read i false ≡ eqb (load 1 b (16 + i)) 1) where
  pub marks_loaded : (n : ℕ) → n ≤ 8 → tabulate n (mark_of x) ≡ tabulate n (mark_at b)
  unfolding mark_at
  marks_loaded n few = tab_ext n _ _ (λ i l. rw (ks i (omega arith), ms i (omega arith)))

  -- as many as the byte of the count says
  pub marks_on_loaded : x.page.count ≤ 8 → x.page.count ≡ load 1 b 3 → marks_on x ≡ tabulate (load 1 b 3) (mark_at b)
  marks_on_loaded few e = rw (← e) (marks_loaded x.page.count few)
