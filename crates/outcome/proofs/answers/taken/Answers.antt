-- `outcome::answers::taken` meets its contract: the message and its vector are the letter's.
use mathlib.Core.Path.{refl}
use Rattle.outcome.proofs.answers.taken.Goals as goal

pub returns : goal.returns
returns c = refl
