-- `outcome::keeping::ended` meets its contract: a closed session's page.
use mathlib.Core.Path.{ap}
use Rattle.protocol.specs.State.{Session, closed, with_page}
use Rattle.parts.specs.Meaning.{as_session}
use Rattle.outcome.proofs.keeping.ended.Goals as goal

pub returns : goal.returns
unfolding closed
returns c = ap (λ (y : Session). with_page (as_session c.args.x) y.page) c.closed.ensures
