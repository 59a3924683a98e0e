-- `outcome::keeping::opened` meets its contract: a closed session, but for what is set.
use mathlib.Core.Path.{ap}
use mathlib.Core.Bool.{true}
use Rattle.protocol.specs.State.{Session, closed, opened}
use Rattle.outcome.proofs.keeping.opened.Goals as goal

pub returns : goal.returns
unfolding closed opened
returns c = ap (λ (y : Session). record { is_open = true; site = c.args.m; vec = y.vec; page = y.page }) c.closed.ensures
