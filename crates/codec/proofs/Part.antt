-- The laws of a lent part. In order: its length, what a put or a load in the part is in the whole, what comes back to a caller that lent it,
-- and what a part shows after something was done to it or to another.
use Prim.Native.Nat.{ℕ, zero, suc, ◌+◌, ◌-◌, ◌%◌, ◌/◌, ◌≤◌, ◌<◌}
use native.Mathlib.Nat.{add-suc}
use native.Mathlib.Decide.{dec_lt}
use native.Mathlib.Omega.{arith}
use mathlib.Core.Path.{◌≡◌, sym, ap, ◌∙◌}
use mathlib.Core.List.{List, ◌++◌}
use lib.ListN.{length, get_or, set, take, drop, length-drop}
use lib.Seq.{length-take-le, take_at, drop_at, take-set-le, take-set-lt, drop-set-lt, drop-set-add, get_or-take, get_or-drop, ext_get_or}
use borrow.Rule.Slice.PartMut.{post_of, put_mid, same_len_mid, put_same, take_put}
use Rattle.codec.specs.Le.{put, Apart}
use Rattle.codec.specs.Part.{part_of, on_part, Keeps}

pub length_part : (off k : ℕ) (t : List ℕ) → off + k ≤ length t → length (part_of off k t) ≡ k
length_part off k t h = length-take-le k (drop off t) (omega (arith, length-drop off t))

pub get_d_part : (off k : ℕ) (t : List ℕ) (i : ℕ) → i < k → get_or (part_of off k t) i 0 ≡ get_or t (off + i) 0
get_d_part off k t i h = get_or-take k (drop off t) i 0 h ∙ get_or-drop off t i 0

-- ---- a put or a load in the part is one in the whole

module _ (off k : ℕ) (t : List ℕ) (j v : ℕ) (h : j < k) where
  part_set : set (part_of off k t) j v ≡ part_of off k (set t (off + j) v)
  part_set = rw (drop-set-add off t j v, take-set-lt k (drop off t) j v h)

  around_set : (ys : List ℕ) → put_mid off k t ys ≡ put_mid off k (set t (off + j) v) ys
  around_set ys = rw (take-set-le off t (off + j) v (omega arith), drop-set-add off t j v, drop-set-lt k (drop off t) j v h)

pub on_part-put : (off k : ℕ) (t : List ℕ) (n j x : ℕ) → j + n ≤ k → on_part off k (λ s. put n s j x) t ≡ put n t (off + j) x
unfolding put
on_part-put off k t zero j x b = put_same off k t
on_part-put off k t (suc n) j x b =
    let u = set t (off + j) (x % 256) in
    rw (part_set off k t j (x % 256) (omega arith), ← add-suc)
    (around_set off k t j (x % 256) (omega arith) (put n (part_of off k u) (suc j) (x / 256)) ∙ on_part-put off k u n (suc j) (x / 256) (omega arith))

-- ---- what a caller that lent `&mut t[off..off + k]` has when the part is back, where the callee did f to it

pub lent_back : (off k : ℕ) (t ys : List ℕ) (f : List ℕ → List ℕ) → ys ≡ f (part_of off (off + k - off) t) → put_mid off (off + k - off) t ys ≡ on_part off k f t
lent_back off k t ys f e =
    let c : off + k - off ≡ k = omega arith in
    rw (e, c)

-- ---- what a part shows after f was done to it, and after f was done to another part

module _ (off k : ℕ) (f : List ℕ → List ℕ) (t : List ℕ) (fit : off + k ≤ length t) (keeps : Keeps k f) where
  length_done : length (f (part_of off k t)) ≡ k
  length_done = keeps (part_of off k t) (length_part off k t fit)

  pub length-on_part : length (on_part off k f t) ≡ length t
  length-on_part = same_len_mid off k t (f (part_of off k t)) (length_done ∙ sym (length_part off k t fit))

  from-on_part : drop off (on_part off k f t) ≡ f (part_of off k t) ++ post_of off k t
  from-on_part = drop_at (take off t) (f (part_of off k t) ++ post_of off k t) off (length-take-le off t (omega arith))

  pub part_on_part : part_of off k (on_part off k f t) ≡ f (part_of off k t)
  part_on_part = ap (take k) from-on_part ∙ take_at (f (part_of off k t)) (post_of off k t) k length_done

  after-on_part : post_of off k (on_part off k f t) ≡ post_of off k t
  after-on_part = ap (drop k) from-on_part ∙ drop_at (f (part_of off k t)) (post_of off k t) k length_done

  -- a byte that is not of the part
  pub get_or-on_part : (j : ℕ) → (off ≤ j → j < off + k → ⊥) → get_or (on_part off k f t) j 0 ≡ get_or t j 0
  get_or-on_part j o = go (dec_lt j off)
    where
      beyond : (s : List ℕ) (r : ℕ) → get_or (post_of off k s) r 0 ≡ get_or s (off + (k + r)) 0
      beyond s r = get_or-drop k (drop off s) r 0 ∙ get_or-drop off s (k + r) 0

      go : Dec (j < off) → get_or (on_part off k f t) j 0 ≡ get_or t j 0
      go (yes l) =
          sym (get_or-take off (on_part off k f t) j 0 l)
          ∙ ap (λ (s : List ℕ). get_or s j 0) (take_put off k t (f (part_of off k t)) (omega arith))
          ∙ get_or-take off t j 0 l
      go (no l) =
          let far : ¬ (j < off + k) = o (omega arith) in
          let r = j - (off + k) in
          let q : j ≡ off + (k + r) = omega arith in
          rw q (sym (beyond (on_part off k f t) r) ∙ ap (λ (s : List ℕ). get_or s r 0) after-on_part ∙ beyond t r)

  pub part_other : (off' k' : ℕ) → Apart off' k' off k → off' + k' ≤ length t → part_of off' k' (on_part off k f t) ≡ part_of off' k' t
  part_other off' k' o fit' =
      let l = length_part off' k' (on_part off k f t) (omega (arith, length-on_part)) in
      ext_get_or 0 (part_of off' k' (on_part off k f t)) (part_of off' k' t) (l ∙ sym (length_part off' k' t fit'))
      (λ i b.
      let b' : i < k' = omega arith in
      get_d_part off' k' (on_part off k f t) i b' ∙ get_or-on_part (off' + i) (o (off' + i) (omega arith) (omega arith)) ∙ sym (get_d_part off' k' t i b'))
