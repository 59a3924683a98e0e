-- `table::sites::publish_node` meets its contract, by what comes back of the node.
use native.Mathlib.Omega.{arith}
use borrow.Author.Rules.{rules}
use Rattle.table.proofs.Lent.{node_lent, node_back}
use Rattle.table.proofs.sites.publish_node.Goals as goal

pub publish-requires : goal.publish-requires
publish-requires c =
    let a = c.args in
    (search rules, omega arith, rw (← node_lent a.site.now a.p _ c.node_at-off.ensures.0 (omega arith)) c.requires.3)

pub returns : goal.returns
returns c = node_back _ _ _ c.node_at-off.ensures.0 _ _ c.publish.ensures
