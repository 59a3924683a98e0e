-- A part of the table that is lent: the k bytes from `off`, and the table with something done to them. The laws are in proofs/Part.
use Rattle.std.specs.Prelude.{◌≡◌, List, ℕ, length}
use borrow.Rule.Slice.PartMut.{mid_of, put_mid}

-- the k bytes from `off`
abbrev pub part_of : ℕ → ℕ → List ℕ → List ℕ
part_of off k t = mid_of off k t

-- t with f done to the k bytes from `off`
abbrev pub on_part : ℕ → ℕ → (List ℕ → List ℕ) → List ℕ → List ℕ
on_part off k f t = put_mid off k t (f (part_of off k t))

-- f keeps the length of a part of k bytes
abbrev pub Keeps : ℕ → (List ℕ → List ℕ) → Type 0
Keeps k f = (s : List ℕ) → length s ≡ k → length (f s) ≡ k
