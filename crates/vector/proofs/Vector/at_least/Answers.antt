-- `vector::Vector::at_least` meets its contract, by what its two callees ensure.
use mathlib.Core.Path.{refl, ◌∙◌}
use Rattle.vector.specs.Entries.{entry}
use Rattle.vector.proofs.Entries.{with_later}
use Rattle.vector.proofs.Vector.at_least.Goals as goal

pub returns : goal.returns
unfolding entry
returns c = c.with_entry.ensures ∙ rw c.later.ensures (with_later _ _ _ _ refl)
