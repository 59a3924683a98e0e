-- The piece as the code cuts it out, and its length.
use Prim.Native.Nat.{ℕ, ◌+◌, ◌*◌, ◌-◌, ◌≤◌, min}
use native.Mathlib.Omega.{arith}
use mathlib.Core.Path.{◌≡◌, ap}
use mathlib.Core.List.{List, []}
use lib.ListN.{length, drop, length-take, length-drop}
use Rattle.codec.specs.Part.{part_of}
use Rattle.reader.specs.Pieces.{piece_of}

module _ (es : List ℕ) (i : ℕ) where
  pub piece_cut : (k : ℕ) → k ≡ min 32 (length es - 32 * i) → part_of (32 * i) (32 * i + k - 32 * i) es ≡ piece_of es i
  unfolding piece_of
  piece_cut k q = let z : 32 * i + k - 32 * i ≡ min 32 (length es - 32 * i) = omega arith in ap (λ n. part_of (32 * i) n es) z

  pub piece_none : length es ≤ 32 * i → [] ≡ piece_of es i
  unfolding piece_of
  piece_none h = let z : 0 ≡ min 32 (length es - 32 * i) = omega arith in ap (λ n. part_of (32 * i) n es) z

  pub length_piece : length (piece_of es i) ≡ min 32 (length es - 32 * i)
  unfolding piece_of
  length_piece = omega (arith, length-take (min 32 (length es - 32 * i)) (drop (32 * i) es), length-drop (32 * i) es)
