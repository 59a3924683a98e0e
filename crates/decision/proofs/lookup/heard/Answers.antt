-- `decision::lookup::heard` meets its contract, by what the lent node says.
use mathlib.Core.Path.{ap, ◌∙◌}
use Rattle.parts.specs.Node.{heard_in}
use Rattle.decision.proofs.lookup.heard.Goals as goal

pub returns : goal.returns
returns c = c.heard.ensures ∙ ap heard_in c.node.ensures.0
