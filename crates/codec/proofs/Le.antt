-- The laws of little-endian numbers, each once, over the width. In order: what a put leaves as it was, what a load shows after a put, the range
-- of a load, and one byte more as the code counts. `Apart` is proved by `λ k a b c d. omega arith`, whichever run comes first.
use mathlib.Core.Path.{◌≡◌, refl, ◌∙◌}
use mathlib.Core.List.{List}
use Prim.Native.Nat.{ℕ, zero, suc, ◌+◌, ◌*◌, ◌/◌, ◌%◌, ◌≤◌, ◌<◌}
use native.Mathlib.Nat.{add-zero, add-suc, suc-add}
use native.Mathlib.Numerals.{add-one}
use native.Mathlib.Omega.{arith}
use lib.ListN.{length, get_or, set, length-set}
use lib.Seq.{get_or-set_same, get_or-set_other}
use Rattle.codec.specs.Le.{load, put, span, Bytes, Apart}

-- ---- what a put leaves as it was

pub length-put : (n : ℕ) (t : List ℕ) (at x : ℕ) → length (put n t at x) ≡ length t
unfolding put
length-put zero t at x = refl
length-put (suc n) t at x = length-put n (set t at (x % 256)) (suc at) (x / 256) ∙ length-set t at (x % 256)

-- a byte outside of what is put
pub get_or-put-other : (n : ℕ) (t : List ℕ) (at x j : ℕ) → (at ≤ j → j < at + n → ⊥) → get_or (put n t at x) j 0 ≡ get_or t j 0
unfolding put
get_or-put-other zero t at x j o = refl
get_or-put-other (suc n) t at x j o =
    get_or-put-other n (set t at (x % 256)) (suc at) (x / 256) j (λ a b. o (omega arith) (omega arith))
    ∙ get_or-set_other t at j (x % 256) 0 (λ e. o (omega arith) (omega arith))

-- ---- what a load shows after a put

-- two lists that agree on the bytes of a load give the same number
pub load_ext : (n : ℕ) (s t : List ℕ) (i j : ℕ) → ((k : ℕ) → k < n → get_or s (i + k) 0 ≡ get_or t (j + k) 0) → load n s i ≡ load n t j
unfolding load
load_ext zero s t i j e = refl
load_ext (suc n) s t i j e =
    let h : get_or s i 0 ≡ get_or t j 0 = simp add-zero at (e 0 (omega arith)) in
    let r : load n s (suc i) ≡ load n t (suc j) = load_ext n s t (suc i) (suc j) (λ k b. rw (suc-add, suc-add, ← add-suc, ← add-suc) (e (suc k) (omega arith))) in
    rw (h, r)

-- a load elsewhere
pub load-put-other : (m n : ℕ) (t : List ℕ) (at x j : ℕ) → Apart j m at n → load m (put n t at x) j ≡ load m t j
load-put-other m n t at x j o =
    load_ext m (put n t at x) t j j (λ k b. get_or-put-other n t at x (j + k) (o (j + k) (omega arith) (omega arith)))

-- a load of what was put
pub load-put : (n : ℕ) (t : List ℕ) (at x : ℕ) → at + n ≤ length t → x < span n → load n (put n t at x) at ≡ x
unfolding load put span
load-put zero t at x h b = omega arith
load-put (suc n) t at x h b =
    let u = set t at (x % 256) in
    let low : get_or (put n u (suc at) (x / 256)) at 0 ≡ x % 256 =
    get_or-put-other n u (suc at) (x / 256) at (λ a b. omega arith) ∙ get_or-set_same t at (x % 256) 0 (omega arith) in
    let high : load n (put n u (suc at) (x / 256)) (suc at) ≡ x / 256 =
    load-put n u (suc at) (x / 256) (omega (arith, length-set t at (x % 256))) (omega arith) in
    omega arith

-- ---- a load by its bytes

pub load_byte : (t : List ℕ) (at : ℕ) → load 1 t at ≡ get_or t at 0
unfolding load
load_byte t at = omega arith

-- equal numbers have equal bytes
pub same_bytes : (n : ℕ) (s t : List ℕ) (i j : ℕ) → Bytes s → Bytes t → load n s i ≡ load n t j → (k : ℕ) → k < n → get_or s (i + k) 0 ≡ get_or t (j + k) 0
unfolding load
same_bytes zero s t i j bs bt e k h = absurd (omega arith)
same_bytes (suc n) s t i j bs bt e zero h = rw (add-zero, add-zero) (omega (arith, bs i, bt j))
same_bytes (suc n) s t i j bs bt e (suc k) h =
    rw (add-suc, add-suc, ← suc-add, ← suc-add)
    (same_bytes n s t (suc i) (suc j) bs bt (omega (arith, bs i, bt j)) k (omega arith))

-- ---- the range of a load

pub span_pos : (n : ℕ) → 0 < span n
unfolding span
span_pos zero = omega arith
span_pos (suc n) = omega (arith, span_pos n)

-- a load of at most k bytes
pub load_bound : (k n : ℕ) (t : List ℕ) (at : ℕ) → Bytes t → n ≤ k → load n t at < span k
unfolding load span
load_bound k zero t at h le = span_pos k
load_bound zero (suc n) t at h le = absurd (omega arith)
load_bound (suc k) (suc n) t at h le = omega (arith, h at, load_bound k n t (suc at) h (omega arith))

pub load_lt : (n : ℕ) (t : List ℕ) (at : ℕ) → Bytes t → load n t at < span n
load_lt n t at h = load_bound n n t at h (omega arith)

-- ---- one byte more, as the code counts; and the same at numbers that `omega` shows equal

pub load_none : (t : List ℕ) (at : ℕ) → load 0 t at ≡ 0
unfolding load
load_none t at = refl

pub put_none : (t : List ℕ) (at x : ℕ) → put 0 t at x ≡ t
unfolding put
put_none t at x = refl

pub load_step : (n : ℕ) (t : List ℕ) (at : ℕ) → load (n + 1) t at ≡ get_or t at 0 + 256 * load n t (at + 1)
load_step n t at = rw (add-one n, add-one at) (unfold load in refl)

pub put_step : (n : ℕ) (t : List ℕ) (at x : ℕ) → put (n + 1) t at x ≡ put n (set t at (x % 256)) (at + 1) (x / 256)
put_step n t at x = rw (add-one n, add-one at) (unfold put in refl)

pub load_at : (t : List ℕ) {n m i j : ℕ} → n ≡ m → i ≡ j → load n t i ≡ load m t j
load_at t p q = cc

pub put-at : (t : List ℕ) {n m i j x y : ℕ} → n ≡ m → i ≡ j → x ≡ y → put n t i x ≡ put m t j y
put-at t p q r = cc
