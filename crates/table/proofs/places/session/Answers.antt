-- `table::places::session` meets its contract: what is lent is the session's bytes.
use mathlib.Core.Path.{sym, ap, ◌∙◌}
use lib.ListN.{length}
use Rattle.table.proofs.Lent.{session_lent}
use Rattle.table.proofs.Parts.{length-session}
use Rattle.table.proofs.places.session.Goals as goal

pub returns : goal.returns
returns c =
    let e = sym (session_lent c.args.t.now _ _ c.session_at-off.ensures.0 c.args.session.sixteen) in
    (e, ap length e ∙ length-session _ _ c.requires c.args.session.sixteen)
