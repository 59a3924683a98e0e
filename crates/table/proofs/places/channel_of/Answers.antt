-- `table::places::channel_of` meets its contract: what is lent is the channel's bytes.
use mathlib.Core.Path.{sym, ap, ◌∙◌}
use lib.ListN.{length}
use Rattle.table.proofs.Lent.{channel_lent}
use Rattle.table.proofs.Parts.{length_channel}
use Rattle.table.proofs.places.channel_of.Goals as goal

pub returns : goal.returns
returns c =
    let e = sym (channel_lent c.args.site.now _ _ _ c.channel_at-off.ensures.0 c.requires.1 c.requires.2) in
    (e, ap length e ∙ length_channel _ _ _ c.requires.0 c.requires.1 c.requires.2)
