-- Vectors of stamps, an entry for each site: functions of the site's number. In order: the width, all-zero, tests, and what raises a vector.
-- The laws are in proofs/Vec, over any number of entries; vectors as the code and the table hold them are in Entries.
use Rattle.std.specs.Prelude.{ℕ, zero, suc, max, Bool, cond, ◌||◌, leb, eqb}
use Rattle.codec.specs.Below.{all_below, first_not}

-- R11
abbrev pub width : ℕ
width = 4

abbrev pub Vec : Type 0
Vec = ℕ → ℕ

abbrev pub zeros : Vec
zeros i = 0

-- every entry of v is at most w's
unfoldable pub at_most : Vec → Vec → Bool
at_most v w = all_below width (λ i. leb (v i) (w i))

-- the same of every entry but that of site m
unfoldable pub at_most_but : ℕ → Vec → Vec → Bool
at_most_but m v w = all_below width (λ i. eqb i m || leb (v i) (w i))

-- the lowest site at which w is short of v, the width where there is none
unfoldable pub first_short : Vec → Vec → ℕ
first_short v w = first_not width (λ i. leb (v i) (w i))

-- the same of every site but m
unfoldable pub first_short_but : ℕ → Vec → Vec → ℕ
first_short_but m v w = first_not width (λ i. eqb i m || leb (v i) (w i))

-- the largest of the first n entries, and of all
unfoldable pub largest_of : ℕ → Vec → ℕ
largest_of zero v = 0
largest_of (suc n) v = max (largest_of n v) (v n)

unfoldable pub largest : Vec → ℕ
largest v = largest_of width v

-- entry m becomes t
unfoldable pub with_entry : Vec → ℕ → ℕ → Vec
with_entry v m t i = cond (eqb i m) t (v i)

-- entry m becomes at least t
unfoldable pub at_least : Vec → ℕ → ℕ → Vec
at_least v m t i = cond (eqb i m) (max (v i) t) (v i)

-- the entrywise larger of the two
unfoldable pub larger : Vec → Vec → Vec
larger v w i = max (v i) (w i)

-- R37
unfoldable pub raised : Vec → Vec → ℕ → ℕ → Vec
raised v carried source stamp = at_least (larger v carried) source stamp
