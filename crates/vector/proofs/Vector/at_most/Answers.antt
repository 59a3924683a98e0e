-- `vector::Vector::at_most` meets its contract: no entry is excepted.
use mathlib.Core.Path.{◌∙◌}
use Rattle.vector.proofs.Entries.{at_most_but_none}
use Rattle.vector.proofs.Vector.at_most.Goals as goal

pub returns : goal.returns
returns c = c.at_most_but.ensures ∙ at_most_but_none _ _
