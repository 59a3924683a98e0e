-- `table::sites::set_clock` meets its contract, by what comes back of the node.
use Rattle.table.proofs.Lent.{node_back}
use Rattle.table.proofs.sites.set_clock.Goals as goal

pub returns : goal.returns
returns c = node_back _ _ _ c.node_at-off.ensures.0 _ _ c.set_clock.ensures
