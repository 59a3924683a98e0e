use mathlib.Core.Path.{◌≡◌}
use Rattle.vector.specs.Entries.{entry, put_first}
use Rattle.vector.proofs.store_vector.Given as goal

abbrev pub invariant-loop-i : goal.invariant-loop-i
invariant-loop-i l = l.t ≡ put_first l.i l.initial.t l.at (entry l.x-items)
