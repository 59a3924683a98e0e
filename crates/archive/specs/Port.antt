-- What C and Rust get of a call: its answer as five values, and the table.
use Rattle.std.specs.Prelude.{ℕ, ◌≡◌, List}
use Rattle.protocol.specs.declared.Values.{Values}
use Rattle.protocol.specs.Event.{values_of}
use Rattle.steps.specs.Step.{Called}

-- the values v and the table t are those of the call c
abbrev pub Returned : Values → List ℕ → Called → Type 0
Returned v t c = (v ≡ values_of c.answer) × (t ≡ c.table)
