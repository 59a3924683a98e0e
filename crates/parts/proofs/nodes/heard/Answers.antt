-- `parts::nodes::heard` meets its contract, by its one load.
use borrow.Author.Rules.{rules}
use Rattle.parts.specs.Node.{heard_in}
use Rattle.parts.proofs.nodes.heard.Goals as goal

pub returns : goal.returns
unfolding heard_in
returns c = search rules
