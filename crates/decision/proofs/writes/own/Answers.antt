-- `decision::writes::own` meets its contract: the entry of the vector that was looked up.
use mathlib.Core.Path.{ap}
use Rattle.vector.specs.Entries.{entry}
use Rattle.decision.proofs.writes.own.Goals as goal

pub returns : goal.returns
unfolding entry
returns c = ap (λ v. v c.args.node.site) c.heard.ensures
