-- The vector that the code holds, as a function of the site's number, and the site that the code names.
use Rattle.std.specs.Prelude.{ℕ}
use Rattle.std.specs.declared.option.Option as Code
use Rattle.vector.specs.declared.Vector.{Vector}
use Rattle.vector.specs.Vec.{Vec, width}
use Rattle.vector.specs.Entries.{entry}

abbrev pub as_vec : Vector → Vec
as_vec v = entry v.entries

-- the width where it names none
abbrev pub site_named : Code.Option ℕ → ℕ
site_named Code.Option.None = width
site_named (Code.Option.Some i) = i
