-- `outcome::keeping::begun` meets its contract: the session as it was, but for its page.
use Rattle.protocol.specs.Serve.{begun}
use Rattle.outcome.proofs.keeping.begun.Goals as goal

pub returns : goal.returns
unfolding begun
returns c = rw (c.larger_of.ensures, c.zero.ensures, c.unread.ensures)
