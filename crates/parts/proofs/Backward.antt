-- Lists of a function's values as a loop goes over them from the last to the first: those that it has passed, none, one more in front, all. Then what is done to each
-- mark of such a list.
use Prim.Native.Nat.{ℕ, zero, suc, ◌+◌, ◌-◌, ◌≤◌, ◌<◌}
use native.Mathlib.Nat.{add-zero}
use native.Mathlib.Omega.{arith}
use mathlib.Core.Path.{◌≡◌, refl, sym, ap, ◌∙◌}
use mathlib.Core.Bool.{false, ◌||◌}
use mathlib.Core.List.{List, [], ◌∷◌}
use lib.Dec.{eqb}
use lib.ListN.{get_or, replicate, get_or-replicate}
use Rattle.codec.specs.Tabulate.{tabulate}
use Rattle.codec.proofs.Tabulate.{tab_ext}
use Rattle.protocol.specs.State.{Mark}
use Rattle.protocol.specs.Serve.{unread, mark_read}
use Rattle.parts.specs.declared.Keys.{Keys}
use Rattle.parts.specs.Pages.{keys_on, marks_on}

-- those from i to n
abbrev pub from_to {ℓ} : {A : Type ℓ} → ℕ → ℕ → (ℕ → A) → List A
from_to i n f = tabulate (n - i) (λ k. f (i + k))

module _ {A : Type 0} (f : ℕ → A) (n : ℕ) where
  pub from_none : from_to n n f ≡ []
  unfolding tabulate
  from_none =
      let e : n - n ≡ 0 = omega arith in
      rw e

  pub from_back : (i : ℕ) → 0 < i → i ≤ n → from_to (i - 1) n f ≡ f (i - 1) ∷ from_to i n f
  unfolding tabulate
  from_back zero l h = absurd (omega arith)
  from_back (suc i) l h =
      let e : suc i - 1 ≡ i = omega arith in
      let d : n - i ≡ suc (n - suc i) = omega arith in
      rw (e, d, add-zero i) (ap (λ r. f i ∷ r) (tab_ext (n - suc i) (λ k. f (i + suc k)) (λ k. f (suc i + k)) (λ k b. ap f (omega arith))))

  pub from_all : from_to 0 n f ≡ tabulate n f
  from_all =
      let e : n - 0 ≡ n = omega arith in
      rw e (tab_ext n (λ k. f (0 + k)) f (λ k b. ap f (omega arith)))

-- ---- marks

pub marks-read : (k n : ℕ) (f : ℕ → Mark) → mark_read k (tabulate n f) ≡ tabulate n (λ i. record { key = (f i).key; read = (f i).read || eqb (f i).key k })
unfolding mark_read tabulate
marks-read k zero f = refl
marks-read k (suc n) f = rw (marks-read k n (λ i. f (suc i)))

marks-unread : (n : ℕ) (f : ℕ → ℕ) → unread (tabulate n f) ≡ tabulate n (λ i. record { key = f i; read = false })
unfolding unread tabulate
marks-unread zero f = refl
marks-unread (suc n) f = rw (marks-unread n (λ i. f (suc i)))

-- a page begins with no key read
pub marks-begun : (x : Keys) → x.count ≤ 8 → marks_on (record { page = x; read = replicate 8 false }) ≡ unread (keys_on x)
marks-begun x few =
    tab_ext x.count (λ i. record { key = get_or x.keys i 0; read = get_or (replicate 8 false) i false }) (λ i. record { key = get_or x.keys i 0; read = false }) (λ i b. rw (get_or-replicate 8 i false false (omega arith)))
    ∙ sym (marks-unread x.count (λ i. get_or x.keys i 0))
