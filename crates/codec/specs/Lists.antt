-- Whether a number is in a list.
use Rattle.std.specs.Prelude.{ℕ, Bool, false, ◌||◌, List, [], ◌∷◌, eqb}

abbrev pub has : List ℕ → ℕ → Bool
has [] k = false
has (j ∷ ks) k = eqb j k || has ks k
