-- A level is a signed number in four bytes, in two's complement: `level_from` of the four bytes' number, `bits_of` of the level. The laws are in
-- proofs/Level.
use Rattle.std.specs.Prelude.{ℕ, ◌-◌, ◌<◌, cond, ltb, ℤ, pos, negsuc}

unfoldable pub level_from : ℕ → ℤ
level_from b = cond (ltb b 2147483648) (pos b) (negsuc (4294967295 - b))

unfoldable pub bits_of : ℤ → ℕ
bits_of (pos n) = n
bits_of (negsuc n) = 4294967295 - n

-- the level fits in four bytes: −2,147,483,648 to 2,147,483,647
unfoldable pub FitsLevel : ℤ → Type 0
FitsLevel (pos n) = n < 2147483648
FitsLevel (negsuc n) = n < 2147483648
