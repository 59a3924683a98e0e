-- A list of tests, and that all of them hold: how a long conjunction is written, a test to a line. The laws are in proofs/Tests.
use Rattle.std.specs.Prelude.{◌≡◌, Bool, true, ◌&&◌, List, [], ◌∷◌, T}

unfoldable pub every : List Bool → Bool
every [] = true
every (b ∷ bs) = b && every bs

-- the same as facts, one behind the other
abbrev pub Hold : List Bool → Type 0
Hold [] = Unit {0}
Hold (b ∷ bs) = T b × Hold bs

-- and as the equations that code learns from its branches: those before the last, which then decides
abbrev pub Passed : List Bool → Type 0
Passed [] = Unit {0}
Passed (b ∷ []) = Unit {0}
Passed (b ∷ c ∷ bs) = (b ≡ true) × Passed (c ∷ bs)

abbrev pub last_of : List Bool → Bool
last_of [] = true
last_of (b ∷ []) = b
last_of (b ∷ c ∷ bs) = last_of (c ∷ bs)

-- the tests as code joins them with `&`
abbrev pub joined : List Bool → Bool
joined [] = true
joined (b ∷ []) = b
joined (b ∷ c ∷ bs) = b && joined (c ∷ bs)
