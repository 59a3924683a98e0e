-- `outcome::raising::raised_by` meets its contract: nothing was found, or the session is lent and raised.
use Rattle.protocol.specs.Record.{raised_by}
use Rattle.outcome.proofs.raising.raised_by.Goals as goal

pub returns-in-Some : goal.returns-in-Some
unfolding raised_by
returns-in-Some c = rw c.in-Some.is c.raise.ensures

pub returns-in_default : goal.returns-in_default
unfolding raised_by
returns-in_default c = rw c.in_default.is
