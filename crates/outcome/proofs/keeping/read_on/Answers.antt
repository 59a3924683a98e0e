-- `outcome::keeping::read_on` meets its contract: the session as it was, but for its page's marks and what that gathered.
use Rattle.protocol.specs.Serve.{read_on}
use Rattle.outcome.proofs.keeping.read_on.Goals as goal

pub returns : goal.returns
unfolding read_on
returns c = rw (c.raised_by.ensures, c.with_read.ensures)
