-- The limits of numbers that are as wide as 8 bytes: of clocks and times, and of stamps.
use Rattle.std.specs.Prelude.{ℕ, ◌^◌}
use Rattle.protocol.specs.Record.{Setting}

-- R5: clocks and times are below this
abbrev pub time_limit : ℕ
time_limit = 2 ^ 48

-- R5: the stamps of records and messages and the entries of vectors are below this
unfoldable pub top_of : Setting → ℕ
top_of c = time_limit
