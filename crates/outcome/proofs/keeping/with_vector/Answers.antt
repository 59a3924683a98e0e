-- `outcome::keeping::with_vector` meets its contract.
use mathlib.Core.Path.{refl}
use Rattle.outcome.proofs.keeping.with_vector.Goals as goal

pub returns : goal.returns
returns c = refl
