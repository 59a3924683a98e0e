-- `table::set_clock` meets its contract, by what comes back of the site's part.
use Rattle.table.specs.Put.{put_core, kept_after, put_change}
use Rattle.table.proofs.Lent.{site_back}
use Rattle.table.proofs.set_clock.Goals as goal

pub returns : goal.returns
unfolding put_change kept_after put_core
returns c = site_back _ _ _ c.site_at-off.ensures.0 _ _ c.set_clock.ensures
