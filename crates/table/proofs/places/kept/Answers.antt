-- `table::places::kept` meets its contract: what is lent is the node's kept places.
use mathlib.Core.Path.{sym, ap, ◌∙◌}
use lib.ListN.{length}
use Rattle.table.proofs.Lent.{kept_lent}
use Rattle.table.proofs.KeptPlaces.{length-kept}
use Rattle.table.proofs.places.kept.Goals as goal

pub returns : goal.returns
returns c =
    let n = c.args.node in
    let e = sym (kept_lent c.args.t.now _ _ _ c.kept_at-off.ensures.0 n.four_sites n.four_partitions) in
    (e, ap length e ∙ length-kept _ _ _ c.requires n.four_sites n.four_partitions)
