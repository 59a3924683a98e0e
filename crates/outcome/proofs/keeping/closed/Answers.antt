-- `outcome::keeping::closed` meets its contract.
use Rattle.codec.specs.Tabulate.{tabulate}
use Rattle.protocol.specs.State.{no_page, closed}
use Rattle.protocol.specs.Serve.{unread}
use Rattle.outcome.proofs.keeping.closed.Goals as goal

pub returns : goal.returns
unfolding closed no_page tabulate unread
returns c = rw (c.zero-zero.ensures, c.unread.ensures)
