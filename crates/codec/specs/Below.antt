-- A test of every number below n, and the first at which it fails. The laws are in proofs/Below.
use Rattle.std.specs.Prelude.{ℕ, zero, suc, Bool, true, cond, ◌&&◌}

-- the test f holds at every number below n
unfoldable pub all_below : ℕ → (ℕ → Bool) → Bool
all_below zero f = true
all_below (suc n) f = all_below n f && f n

-- the lowest number below n at which the test f fails, n where it fails at none
unfoldable pub first_not : ℕ → (ℕ → Bool) → ℕ
first_not zero f = zero
first_not (suc n) f = cond (all_below (suc n) f) (suc n) (first_not n f)
