-- `decision::writes::has_slot` meets its contract, by what the node holds.
use Rattle.decision.proofs.writes.has_slot.Goals as goal

pub returns : goal.returns
returns c = rw (c.held.ensures, c.node.ensures.0)
