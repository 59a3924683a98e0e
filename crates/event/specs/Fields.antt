-- R31 and R33: each code uses the fields named for it, and all others are zero. In order: the ten fields, which code uses which, where each
-- stands, and the test of what is not used.
use Rattle.std.specs.Prelude.{ℕ, ◌+◌, ◌-◌, Bool, ◌&&◌, ◌||◌, List, [], ◌∷◌, eqb, ltb, get_or}
use Rattle.codec.specs.Le.{load}
use Rattle.codec.specs.Below.{all_below}
use Rattle.codec.specs.Lists.{has}

-- ---- the fields, by number

abbrev pub site : ℕ
site = 0

abbrev pub partition : ℕ
partition = 1

abbrev pub session : ℕ
session = 2

abbrev pub key : ℕ
key = 3

abbrev pub quality : ℕ
quality = 4

abbrev pub from : ℕ
from = 5

abbrev pub count : ℕ
count = 6

abbrev pub time : ℕ
time = 7

abbrev pub level : ℕ
level = 8

abbrev pub page_keys : ℕ
page_keys = 9

-- where each field starts, and how many bytes it has
abbrev pub start_of : ℕ → ℕ
start_of f = get_or (1 ∷ 2 ∷ 3 ∷ 4 ∷ 5 ∷ 6 ∷ 7 ∷ 8 ∷ 16 ∷ 20 ∷ []) f 0

abbrev pub size_of : ℕ → ℕ
size_of f = get_or (1 ∷ 1 ∷ 1 ∷ 1 ∷ 1 ∷ 1 ∷ 1 ∷ 8 ∷ 4 ∷ 8 ∷ []) f 0

-- ---- the table: the fields of the codes 1 to 10

abbrev pub fields_named : List (List ℕ)
fields_named =
    (session ∷ site ∷ [])
    ∷ (session ∷ [])
    ∷ (site ∷ partition ∷ time ∷ [])
    ∷ (session ∷ key ∷ [])
    ∷ (session ∷ key ∷ quality ∷ level ∷ [])
    ∷ (session ∷ partition ∷ count ∷ page_keys ∷ [])
    ∷ (session ∷ key ∷ [])
    ∷ (session ∷ [])
    ∷ (site ∷ partition ∷ [])
    ∷ (from ∷ site ∷ partition ∷ [])
    ∷ []

-- the code row + 1 uses the field f
unfoldable pub uses : (row f : ℕ) → Bool
uses row f = has (get_or fields_named row []) f

-- ---- what is not used is zero

-- the n bytes from `at` are zero
unfoldable pub zero_at : List ℕ → (at n : ℕ) → Bool
zero_at e at n = eqb (load n e at) 0

-- page keys beyond the count are zero
unfoldable pub rest_zero : List ℕ → Bool
rest_zero e = all_below 8 (λ i. ltb i (load 1 e 7) || eqb (load 1 e (20 + i)) 0)

unfoldable pub unused_zero : List ℕ → Bool
unused_zero e = all_below 10 (λ f. uses (load 1 e 0 - 1) f || zero_at e (start_of f) (size_of f)) && (rest_zero e && zero_at e 28 4)
