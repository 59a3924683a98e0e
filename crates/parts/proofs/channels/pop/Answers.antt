-- `parts::channels::pop` meets its contract: the front goes on by one, and one less waits.
use mathlib.Core.Path.{◌∙◌}
use Rattle.parts.specs.Channel.{popped}
use Rattle.parts.proofs.channels.pop.Goals as goal

pub returns : goal.returns
unfolding popped
returns c =
    c.store-2.ensures ∙ rw (c.store.ensures, c.front.ensures, c.waiting-wait.ensures)
