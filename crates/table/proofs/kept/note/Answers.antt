-- `table::kept::note` meets its contract: the node and its kept place are read, and the one byte is set in what is lent.
use mathlib.Core.Path.{◌≡◌, ap, ◌∙◌}
use Rattle.codec.specs.Le.{put}
use Rattle.parts.specs.Node.{held_in}
use Rattle.table.specs.Parts.{site_of, node_of}
use Rattle.table.specs.Decode.{setting_in}
use Rattle.table.specs.Noted.{place_noted, noted}
use Rattle.table.proofs.Lent.{kept_lent, kept_back}
use Rattle.table.proofs.kept.note.Goals as goal

pub returns : goal.returns
unfolding noted place_noted
returns c =
    let a = c.args in
    let t = a.t.now in
    let n = node_of (site_of t a.node.site) a.node.partition in
    let held : c.held.result ≡ held_in n = c.held.ensures ∙ ap held_in c.node-n.ensures.0 in
    let lent = kept_lent t a.node.site a.node.partition _ c.kept_at-off.ensures.0 a.node.four_sites a.node.four_partitions in
    kept_back t a.node.site a.node.partition _ c.kept_at-off.ensures.0 _ (place_noted (setting_in t) n a.k)
    (c.store.ensures ∙ ap (put 1 _ a.k) (c.later-newest.ensures.0 (setting_in t) ∙ rw (c.node-n.ensures.0, held, c.place-best.ensures, lent)))
