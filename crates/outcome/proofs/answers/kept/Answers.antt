-- `outcome::answers::kept` meets its contract.
use mathlib.Core.Path.{refl}
use Rattle.outcome.proofs.answers.kept.Goals as goal

pub returns : goal.returns
returns c = refl
