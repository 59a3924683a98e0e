-- Event bytes are taken in pieces of 32, the last as long as it is.
use Rattle.std.specs.Prelude.{ℕ, ◌*◌, ◌-◌, min, List, length}
use Rattle.codec.specs.Part.{part_of}

-- piece i of the event bytes; none beyond the end
unfoldable pub piece_of : List ℕ → ℕ → List ℕ
piece_of es i = part_of (32 * i) (min 32 (length es - 32 * i)) es
