-- `table::set_session` meets its contract, by what comes back of the session.
use Rattle.table.specs.Put.{put_core, kept_after, put_change}
use Rattle.table.proofs.Lent.{session_back}
use Rattle.table.proofs.set_session.Goals as goal

pub returns : goal.returns
unfolding put_change kept_after put_core
returns c = session_back _ _ _ c.session_at-off.ensures.0 _ _ c.store.ensures
