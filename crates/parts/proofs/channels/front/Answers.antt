-- `parts::channels::front` meets its contract, by its one load.
use borrow.Author.Rules.{rules}
use Rattle.parts.specs.Channel.{front_in}
use Rattle.parts.proofs.channels.front.Goals as goal

pub returns : goal.returns
unfolding front_in
returns c = search rules
