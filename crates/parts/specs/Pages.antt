-- The keys and marks of a page as the code holds them, of which the first `count` places are in use.
use Rattle.std.specs.Prelude.{ℕ, ◌+◌, ◌-◌, false, List, get_or}
use Rattle.codec.specs.Tabulate.{tabulate}
use Rattle.protocol.specs.State.{Mark}
use Rattle.parts.specs.declared.Keys.{Keys}
use Rattle.parts.specs.declared.Marks.{Marks}

abbrev pub keys_on : Keys → List ℕ
keys_on x = tabulate x.count (λ i. get_or x.keys i 0)

-- those from place i on
abbrev pub keys_from : Keys → (i : ℕ) → List ℕ
keys_from x i = tabulate (x.count - i) (λ j. get_or x.keys (i + j) 0)

-- the mark in place i
abbrev pub mark_of : Marks → (i : ℕ) → Mark
mark_of x i = record { key = get_or x.page.keys i 0; read = get_or x.read i false }

abbrev pub marks_on : Marks → List Mark
marks_on x = tabulate x.page.count (mark_of x)

-- the same marks, of other keys
abbrev pub with_keys : List ℕ → Marks → Marks
with_keys keys x = record { page = record { keys = keys; count = x.page.count }; read = x.read }
