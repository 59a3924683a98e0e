-- Little-endian numbers of any width in a list of bytes. In order: what is read, what is written, the range of a width, and when two runs of
-- bytes are apart. The laws are in proofs/Le.
use Rattle.std.specs.Prelude.{ℕ, zero, suc, ◌+◌, ◌*◌, ◌/◌, ◌%◌, ◌≤◌, ◌<◌, List, get_or, set}
use Rattle.std.proofs.Common.{Fits}
use Rattle.std.specs.Int.{w8}

-- the n bytes of t at `at`, the low one first
unfoldable pub load : ℕ → List ℕ → ℕ → ℕ
load zero t at = 0
load (suc n) t at = get_or t at 0 + 256 * load n t (suc at)

-- t with the n bytes at `at` set to the low n bytes of x
unfoldable pub put : ℕ → List ℕ → ℕ → ℕ → List ℕ
put zero t at x = t
put (suc n) t at x = put n (set t at (x % 256)) (suc at) (x / 256)

-- 256 to the n: what n bytes hold is below it
unfoldable pub span : ℕ → ℕ
span zero = 1
span (suc n) = 256 * span n

-- every element is a byte
abbrev pub Bytes : List ℕ → Type 0
Bytes t = (i : ℕ) → Fits w8 (get_or t i 0)

-- no index lies both in the m bytes from i and in the n bytes from j
abbrev pub Apart : ℕ → ℕ → ℕ → ℕ → Type 0
Apart i m j n = (k : ℕ) → i ≤ k → k < i + m → j ≤ k → k < j + n → ⊥
