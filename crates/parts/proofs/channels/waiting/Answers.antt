-- `parts::channels::waiting` meets its contract, by its one load.
use borrow.Author.Rules.{rules}
use Rattle.parts.specs.Channel.{wait_in}
use Rattle.parts.proofs.channels.waiting.Goals as goal

pub returns : goal.returns
unfolding wait_in
returns c = search rules
