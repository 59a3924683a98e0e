-- `parts::nodes::clock` meets its contract, by its one load.
use borrow.Author.Rules.{rules}
use Rattle.parts.specs.Node.{clock_in}
use Rattle.parts.proofs.nodes.clock.Goals as goal

pub returns : goal.returns
unfolding clock_in
returns c = search rules
