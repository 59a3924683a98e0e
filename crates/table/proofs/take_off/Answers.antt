-- `table::take_off` meets its contract, by what comes back of the site's part.
use native.Mathlib.Omega.{arith}
use borrow.Author.Rules.{rules}
use Rattle.table.proofs.Lent.{site_lent, site_back}
use Rattle.table.proofs.take_off.Goals as goal

pub pop-requires : goal.pop-requires
pop-requires c =
    let a = c.args in
    (search rules, omega arith, omega arith, rw (← site_lent a.t.now a.i _ c.site_at-off.ensures.0 (omega arith)) c.requires.4)

pub returns : goal.returns
returns c = site_back _ _ _ c.site_at-off.ensures.0 _ _ c.pop.ensures
