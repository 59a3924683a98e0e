-- `lawful::pages::holds_key` meets its contract: k is compared with each key.
use mathlib.Core.Path.{◌≡◌, refl, ap, ◌∙◌}
use mathlib.Core.Bool.{Bool}
use Prim.Native.Nat.{ℕ, zero, suc, ◌+◌, ◌<◌}
use native.Mathlib.Omega.{arith}
use borrow.Author.Rules.{rules}
use lib.Dec.{eqb}
use Rattle.std.specs.List.{list_any, range_with_len}
use Rattle.std.proofs.lemmas.Iterator.{YieldsList-from_range}
use Rattle.std.proofs.lemmas.Iterator.Search.{any_from_yields_List}
use Rattle.codec.specs.Le.{load}
use Rattle.codec.specs.Tabulate.{tabulate}
use Rattle.codec.specs.Lists.{has}
use Rattle.lawful.proofs.pages.holds_key.Goals as goal

has_in_a_row : (f : ℕ → ℕ) (k : ℕ) (g : ℕ → Bool) (a n : ℕ) → ((i : ℕ) → i < n → g (a + i) ≡ eqb (f i) k) → list_any g (range_with_len a n) ≡ has (tabulate n f) k
unfolding tabulate
has_in_a_row f k g a zero h = refl
has_in_a_row f k g a (suc n) h =
    let first : g a ≡ eqb (f 0) k = ap g (omega arith) ∙ h 0 (omega arith) in
    let rest = has_in_a_row (λ i. f (suc i)) k g (a + 1) n (λ i l. ap g (omega arith) ∙ h (suc i) (omega arith)) in
    rw (first, rest)

pub returns : goal.returns
returns c =
    let a = c.args in
    any_from_yields_List (λ i. eqb (load 1 a.b.now (a.at + i)) a.k) _ _ _ c.any.ensures.ran (YieldsList-from_range 0 a.n a.n refl (omega arith)) (λ i b q k. search rules)
    ∙ has_in_a_row _ _ _ 0 a.n (λ i l. ap (λ (j : ℕ). eqb (load 1 a.b.now (a.at + j)) a.k) (omega arith))
