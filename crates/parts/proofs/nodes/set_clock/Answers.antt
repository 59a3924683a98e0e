-- `parts::nodes::set_clock` meets its contract, by its one store.
use borrow.Author.Rules.{rules}
use Rattle.parts.specs.Node.{clock_set}
use Rattle.parts.proofs.nodes.set_clock.Goals as goal

pub returns : goal.returns
unfolding clock_set
returns c = search rules
