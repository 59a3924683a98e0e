-- `outcome::answers::raised_by` meets its contract: nothing was found, or it is raised.
use Rattle.protocol.specs.Record.{raised_by}
use Rattle.outcome.proofs.answers.raised_by.Goals as goal

pub returns-in-None : goal.returns-in-None
unfolding raised_by
returns-in-None c = rw c.in-None.is

pub returns-in-Some : goal.returns-in-Some
unfolding raised_by
returns-in-Some c = rw c.in-Some.is c.raised.ensures
