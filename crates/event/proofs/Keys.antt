-- The page keys. In order: lawful keys as a test of every number below the count; an event's keys as the code tests them; keys that are all
-- zero.
use mathlib.Core.Path.{◌≡◌, refl, sym, subst, ◌∙◌}
use mathlib.Core.Bool.{true, ◌&&◌, ◌||◌}
use mathlib.Core.List.{List}
use Prim.Native.Nat.{ℕ, zero, suc, ◌+◌, ◌<◌, ◌≤◌, min}
use native.Mathlib.Nat.{add-zero}
use native.Mathlib.Omega.{arith}
use lib.Dec.{leb, ltb, eqb}
use lib.ListN.{length}
use mir.Facts.{leb_yes}
use Rattle.codec.specs.Le.{load}
use Rattle.codec.specs.Below.{all_below}
use Rattle.codec.specs.Tabulate.{tabulate}
use Rattle.codec.proofs.Below.{all_below_lem, all_below-front, all_below_ext}
use Rattle.codec.proofs.Tests.{yes_or_r, yes_eqb, same_test, and_behind}
use Rattle.codec.proofs.Tabulate.{tab_length, tab_at}
use Rattle.protocol.specs.Needs.{keys_lawful}
use Rattle.event.specs.Fields.{rest_zero}
use Rattle.event.specs.Ranges.{keys_below}

keys_lawful-tabulate : (n : ℕ) (f : ℕ → ℕ) → keys_lawful (tabulate n f) ≡ all_below n (λ i. ltb (f i) 64)
unfolding keys_lawful tabulate
keys_lawful-tabulate zero f = unfold all_below in refl
keys_lawful-tabulate (suc n) f = rw (keys_lawful-tabulate n (λ i. f (suc i))) (sym (all_below-front n (λ i. ltb (f i) 64)))

-- ---- an event's keys

abbrev pub keys : List ℕ → List ℕ
keys e = tabulate (load 1 e 7) (λ i. load 1 e (20 + i))

pub length_keys : (e : List ℕ) → length (keys e) ≡ load 1 e 7
length_keys e = tab_length (load 1 e 7) (λ i. load 1 e (20 + i))

keys_below_lawful : (e : List ℕ) → load 1 e 7 ≤ 8 → keys_below (tabulate 8 (λ i. load 1 e (20 + i))) (load 1 e 7) ≡ keys_lawful (keys e)
unfolding keys_below
keys_below_lawful e h =
    let n = load 1 e 7 in
    let f : ℕ → ℕ = λ i. load 1 e (20 + i) in
    let m : min 8 n ≡ n = omega arith in
    rw m (all_below_ext n _ _ (λ i b. rw (tab_at 8 f 0 i (omega arith))) ∙ sym (keys_lawful-tabulate n f))

-- a count beyond 8 is out of range, whatever the keys are
pub count_keys : (e : List ℕ)
    → (leb (load 1 e 7) 8 && keys_below (tabulate 8 (λ i. load 1 e (20 + i))) (load 1 e 7)) ≡ (leb (load 1 e 7) 8 && keys_lawful (keys e))
count_keys e = and_behind (leb (load 1 e 7) 8) _ _ (λ t. keys_below_lawful e (leb_yes t))

-- ---- no keys at all

-- eight bytes that are the number 0 are all zero
load-zero : (n : ℕ) (e : List ℕ) (at : ℕ) → load n e at ≡ 0 → (i : ℕ) → i < n → load 1 e (at + i) ≡ 0
unfolding load
load-zero (suc n) e at h zero l = rw (add-zero at) (omega arith)
load-zero (suc n) e at h (suc i) l =
    let z : load 1 e (suc at + i) ≡ 0 = load-zero n e (suc at) (omega arith) i (omega arith) in
    let q : suc at + i ≡ at + suc i = omega arith in
    subst (λ j. load 1 e j ≡ 0) q z
load-zero zero e at h i l = elim l [ ]

pub rest_none : (e : List ℕ) → load 8 e 20 ≡ 0 → rest_zero e ≡ true
unfolding rest_zero
rest_none e h =
    same_test (rest_zero e) true (λ t. tt)
    (λ t. all_below_lem 8 (λ i. ltb i (load 1 e 7) || eqb (load 1 e (20 + i)) 0) (λ i b. yes_or_r (ltb i (load 1 e 7)) _ (yes_eqb (load 1 e (20 + i)) 0 (load-zero 8 e 20 h i b))))
