-- `table::places::site` meets its contract: what is lent is the site's bytes.
use mathlib.Core.Path.{sym, ap, ◌∙◌}
use lib.ListN.{length}
use Rattle.table.proofs.Lent.{site_lent}
use Rattle.table.proofs.Parts.{length-site}
use Rattle.table.proofs.places.site.Goals as goal

pub returns : goal.returns
returns c =
    let e = sym (site_lent c.args.t.now _ _ c.site_at-off.ensures.0 c.requires.1) in
    (e, ap length e ∙ length-site _ _ c.requires.0 c.requires.1)
