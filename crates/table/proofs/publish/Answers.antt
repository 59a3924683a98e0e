-- `table::publish` meets its contract, by what comes back of the site's part, and the kept places that follow it.
use mathlib.Core.Path.{sym, ap, subst, ◌∙◌}
use Prim.Native.Nat.{◌-◌, ◌<◌}
use lib.ListN.{length}
use native.Mathlib.Omega.{arith}
use borrow.Author.Rules.{rules}
use Rattle.protocol.specs.Change.{Publish}
use Rattle.record.specs.Meaning.{as_message}
use Rattle.table.specs.Parts.{Long}
use Rattle.table.specs.Put.{published_on, put_core}
use Rattle.table.specs.Noted.{message_noted, Notable}
use Rattle.table.proofs.Lent.{site_lent, site_back}
use Rattle.table.proofs.Decode.{length-put_core}
use Rattle.table.proofs.Follows.{publish-noted, publish_notable}
use Rattle.table.proofs.publish.Goals as goal

pub publish-requires : goal.publish-requires
publish-requires c =
    let a = c.args in
    let fit = c.requires in
    let site : a.node.site < 4 = omega (arith, fit.site, fit.sites) in
    let here = site_lent a.t.now a.node.site _ c.site_at-off.ensures.0 site in (
      search rules,
      omega (arith, c.load.ensures, fit.sites),
      site,
      fit.partition,
      rw (← here) fit.room,
      rw (c.load.ensures, ← here) fit.ways,
    )

pub note_message-requires : goal.note_message-requires
unfolding put_core
note_message-requires c =
    let a = c.args in
    let sent = rw c.load.ensures at (site_back a.t.now a.node.site _ c.site_at-off.ensures.0 _ (published_on (c.load.result - 1) a.node.site a.node.partition (as_message a.x)) c.publish.ensures) in
    let fit = c.requires in
    let x = as_message a.x in
    let long : Long a.t.now = omega (arith, fit.whole) in
    let same = ap length sent ∙ length-put_core (Publish a.node.site a.node.partition x) a.t.now long fit in (
      omega (arith, same, fit.whole),
      subst (Notable a.node.site a.node.partition x) (sym sent) (publish_notable a.node.site a.node.partition x a.t.now fit),
    )

pub returns : goal.returns
unfolding put_core
returns c =
    let a = c.args in
    let sent = rw c.load.ensures at (site_back a.t.now a.node.site _ c.site_at-off.ensures.0 _ (published_on (c.load.result - 1) a.node.site a.node.partition (as_message a.x)) c.publish.ensures) in
    let x = as_message a.x in
    c.note_message.ensures ∙ ap (message_noted a.node.site a.node.partition x) sent ∙ publish-noted a.node.site a.node.partition x a.t.now c.requires
