-- Refusal 11 as the code tests it, field by field: each field's range, and a field that is zero where it is not used and in its range where it
-- is. That this is `unused_zero` with the protocol's `ranges` is proved in proofs/Ranges.
use Rattle.std.specs.Prelude.{ℕ, ◌-◌, min, Bool, false, not, ◌&&◌, ◌||◌, List, [], ◌∷◌, leb, ltb, eqb, get_or}
use Rattle.codec.specs.Le.{load}
use Rattle.codec.specs.Below.{all_below}
use Rattle.codec.specs.Tabulate.{tabulate}
use Rattle.protocol.specs.Record.{Setting}
use Rattle.protocol.specs.Times.{time_limit}
use Rattle.protocol.specs.Needs.{level_lawful}
use Rattle.event.specs.declared.Fields.{Fields}
use Rattle.event.specs.Fields.{uses, start_of, size_of, zero_at, rest_zero}
use Rattle.event.specs.Meaning.{fields_in}

-- of the eight keys those below the count are 0 to 63
unfoldable pub keys_below : List ℕ → ℕ → Bool
keys_below ks count = all_below (min 8 count) (λ i. ltb (get_or ks i 0) 64)

-- the range of each field, in the order of their numbers
unfoldable pub in_range : Setting → Fields → List Bool
in_range c x =
    ltb x.site c.sites
    ∷ ltb x.partition c.partitions
    ∷ ltb x.session 16
    ∷ ltb x.key 64
    ∷ ltb x.quality 3
    ∷ (ltb x.from c.sites && not (eqb x.from x.site))
    ∷ (ltb 0 x.count && leb x.count 8)
    ∷ ltb x.time time_limit
    ∷ level_lawful x.level
    ∷ keys_below x.keys x.count
    ∷ []

-- of each field: the code row + 1 uses it; its bytes are zero
unfoldable pub used_by : (row : ℕ) → List Bool
used_by row = tabulate 10 (uses row)

unfoldable pub zero_in : List ℕ → List Bool
zero_in e = tabulate 10 (λ f. zero_at e (start_of f) (size_of f))

-- the field f is zero unless it is used, and in its range if it is
unfoldable pub field_lawful : (used zero within : List Bool) → (f : ℕ) → Bool
field_lawful used zero within f = (get_or used f false || get_or zero f false) && (not (get_or used f false) || get_or within f false)

-- all ten fields, page keys beyond the count, and bytes 28 to 31
unfoldable pub fields_lawful : Setting → List ℕ → Bool
fields_lawful c e = all_below 10 (field_lawful (used_by (load 1 e 0 - 1)) (zero_in e) (in_range c (fields_in e))) && (rest_zero e && zero_at e 28 4)
