-- What `all` answers over a range of numbers from 0. In order: a test of each number in a row; a test of each number of a range.
use mathlib.Core.Path.{◌≡◌, refl, sym, ap, ◌∙◌}
use mathlib.Core.Bool.{Bool}
use Prim.Native.Nat.{ℕ, zero, suc, ◌+◌, ◌<◌}
use native.Mathlib.Omega.{arith}
use denote.Param.Members.{Mut}
use Rattle.std.specs.declared.ops.Range.{Range}
use Rattle.std.specs.Fn.{Called}
use Rattle.std.specs.Iterator.{ChecksAll}
use Rattle.std.specs.List.{list_all, range_with_len}
use Rattle.std.proofs.iter.Yields.{nat_range_steps}
use Rattle.std.proofs.lemmas.Iterator.{YieldsList-from_range}
use Rattle.std.proofs.lemmas.Iterator.Search.{all_from_yields_List}
use Rattle.codec.specs.Below.{all_below}
use Rattle.codec.proofs.Below.{all_below_none, all_below-front}

in_a_row : (f g : ℕ → Bool) (a n : ℕ) → ((i : ℕ) → i < n → f (a + i) ≡ g i) → list_all f (range_with_len a n) ≡ all_below n g
in_a_row f g a zero h = sym (all_below_none g)
in_a_row f g a (suc n) h =
    let first : f a ≡ g 0 = ap f (omega arith) ∙ h 0 (omega arith) in
    let rest = in_a_row f (λ i. g (suc i)) (a + 1) n (λ i l. ap f (omega arith) ∙ h (suc i) (omega arith)) in
    rw (first, rest) (sym (all_below-front n g))

pub all_in_range : {F : Type 0} {g : Mut F (ℕ × Unit {0}) Bool} {f : F} {r : Bool} {u : Range ℕ} (n : ℕ) (test : ℕ → Bool) →
    ChecksAll nat_range_steps g (record { start = 0; end = n }) f r u →
    ((x : ℕ) (b : Bool) (q : F) → Called g f (x, tt) b q → (q ≡ f) × (b ≡ test x)) → r ≡ all_below n test
all_in_range {f = f} {r = r} {u = u} n test ran h =
    all_from_yields_List test u f r ran (YieldsList-from_range 0 n n refl (omega arith)) h ∙ in_a_row test test 0 n (λ i l. ap test (omega arith))
