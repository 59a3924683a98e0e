-- `table::places::node_of` meets its contract: what is lent is the node's bytes.
use mathlib.Core.Path.{sym, ap, ◌∙◌}
use lib.ListN.{length}
use Rattle.table.proofs.Lent.{node_lent}
use Rattle.table.proofs.Parts.{length_node}
use Rattle.table.proofs.places.node_of.Goals as goal

pub returns : goal.returns
returns c =
    let e = sym (node_lent c.args.site.now _ _ c.node_at-off.ensures.0 c.requires.1) in
    (e, ap length e ∙ length_node _ _ c.requires.0 c.requires.1)
