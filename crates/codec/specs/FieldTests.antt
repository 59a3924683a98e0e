-- What antt computes of a list of fields (each ends by n; no two overlap), when its values are small enough, and what it shows. The laws, which turn a
-- test into what a load shows, are in proofs/Fields.
use Rattle.std.specs.Prelude.{◌≡◌, Bool, true, ◌&&◌, ◌||◌, List, [], ◌∷◌, ℕ, ◌+◌, ◌<◌, leb}
use Rattle.codec.specs.Le.{load, span}
use Rattle.codec.specs.Fields.{Field, field}

-- each field ends by n
abbrev pub within : ℕ → List Field → Bool
within n [] = true
within n (field p w x ∷ fs) = leb (p + w) n && within n fs

-- the n bytes from j overlap none of the fields
abbrev pub clear : ℕ → ℕ → List Field → Bool
clear j n [] = true
clear j n (field p w x ∷ fs) = (leb (j + n) p || leb (p + w) j) && clear j n fs

-- no two of the fields overlap
abbrev pub distinct : List Field → Bool
distinct [] = true
distinct (field p w x ∷ fs) = clear p w fs && distinct fs

-- each value fits its width
abbrev pub Small : List Field → Type 0
Small [] = Unit {0}
Small (field p w x ∷ fs) = (x < span w) × Small fs

-- each field's value stands in t, from `at`
abbrev pub Shows : ℕ → List ℕ → List Field → Type 0
Shows at t [] = Unit {0}
Shows at t (field p w x ∷ fs) = (load w t (at + p) ≡ x) × Shows at t fs
