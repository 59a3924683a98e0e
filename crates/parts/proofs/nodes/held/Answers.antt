-- `parts::nodes::held` meets its contract, by its one load.
use borrow.Author.Rules.{rules}
use Rattle.parts.specs.Node.{held_in}
use Rattle.parts.proofs.nodes.held.Goals as goal

pub returns : goal.returns
unfolding held_in
returns c = search rules
