-- The laws of a level's four bytes. In order: the two halves of `level_from`, `level_from` and `bits_of` undo each other and give what is in range, and
-- the casts of the code give the same.
use Prim.Native.Nat.{ℕ, ◌-◌, ◌<◌}
use native.Mathlib.Omega.{arith}
use mathlib.Core.Path.{◌≡◌, refl, ap}
use mathlib.Core.Bool.{cond}
use lib.Dec.{ltb}
use lib.IntN.{ℤ, pos, negsuc}
use mir.Syntax.{w32}
use mir.Val.{to_z, of_z}
use borrow.Author.Tests.{lt-ltb, le-ltb}
use Rattle.codec.specs.Le.{span}
use Rattle.codec.specs.Level.{level_from, bits_of, FitsLevel}

-- the lower half is the levels from 0 on, the upper half those below
pub level_from_low : (b : ℕ) → b < 2147483648 → level_from b ≡ pos b
unfolding level_from
level_from_low b h = simp (lt-ltb b 2147483648 h)

pub level_from_high : (b : ℕ) → (b < 2147483648 → ⊥) → level_from b ≡ negsuc (4294967295 - b)
unfolding level_from
level_from_high b h = simp (le-ltb b 2147483648 (omega arith))

pub level_from-bits_of : (z : ℤ) → FitsLevel z → level_from (bits_of z) ≡ z
unfolding bits_of FitsLevel
level_from-bits_of (pos n) h = level_from_low n h
level_from-bits_of (negsuc n) h = rw (level_from_high (4294967295 - n) (omega arith)) (ap negsuc (omega arith))

pub bits_of-lt : (z : ℤ) → FitsLevel z → bits_of z < span 4
unfolding bits_of FitsLevel span
bits_of-lt (pos n) h = omega arith
bits_of-lt (negsuc n) h = omega arith

-- ---- the casts of the code, `cast_signed` and `cast_unsigned`, give the same

pub signed_is : (n : ℕ) → to_z w32 n ≡ level_from n
unfolding level_from
signed_is n = ap (λ (k : ℕ). cond (ltb n 2147483648) (pos n) (negsuc k)) (omega arith)

pub unsigned_is : (z : ℤ) → of_z w32 z ≡ bits_of z
unfolding bits_of
unsigned_is (pos n) = refl
unsigned_is (negsuc n) = omega arith
