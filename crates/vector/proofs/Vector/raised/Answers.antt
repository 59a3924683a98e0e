-- `vector::Vector::raised` meets its contract, by what its two callees ensure.
use mathlib.Core.Path.{◌∙◌}
use Rattle.vector.specs.Vec.{raised}
use Rattle.vector.proofs.Vector.raised.Goals as goal

pub returns : goal.returns
unfolding raised
returns c = c.at_least.ensures ∙ rw c.larger_of.ensures
