-- `table::take_in` meets its contract, by what comes back of the site's part.
use native.Mathlib.Omega.{arith}
use borrow.Author.Rules.{rules}
use Rattle.table.proofs.Lent.{site_lent, site_back}
use Rattle.table.proofs.take_in.Goals as goal

pub receive-requires : goal.receive-requires
receive-requires c =
    let a = c.args in
    (search rules, omega arith, omega arith, rw (← site_lent a.t.now a.node.site _ c.site_at-off.ensures.0 (omega arith)) c.requires.2)

pub returns : goal.returns
returns c = site_back _ _ _ c.site_at-off.ensures.0 _ _ c.receive.ensures
