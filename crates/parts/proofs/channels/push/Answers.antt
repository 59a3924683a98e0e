-- `parts::channels::push` meets its contract: the message is stored behind the last, and one more waits.
use mathlib.Core.Path.{◌∙◌}
use Rattle.parts.specs.Channel.{pushed}
use Rattle.parts.proofs.channels.push.Goals as goal

pub returns : goal.returns
unfolding pushed
returns c =
    c.store.ensures
    ∙ rw (c.store_message.ensures, c.place-at.ensures.0, c.front.ensures, c.waiting-wait.ensures)
