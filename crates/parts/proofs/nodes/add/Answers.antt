-- `parts::nodes::add` meets its contract: a record at the first free place, and one more held.
use mathlib.Core.Path.{◌∙◌}
use Rattle.parts.proofs.nodes.add.Goals as goal

pub returns : goal.returns
returns c =
    c.store.ensures ∙ rw (c.store_message.ensures, c.held-k.ensures)
