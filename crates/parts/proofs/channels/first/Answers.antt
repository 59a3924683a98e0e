-- `parts::channels::first` meets its contract, by what its callees ensure.
use mathlib.Core.Path.{◌∙◌}
use Rattle.parts.proofs.channels.first.Goals as goal

pub returns : goal.returns
returns c = c.load_message.ensures ∙ rw (c.place.ensures.0, c.front.ensures)
