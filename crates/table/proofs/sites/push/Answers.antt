-- `table::sites::push` meets its contract, by what comes back of the channel.
use native.Mathlib.Omega.{arith}
use borrow.Author.Rules.{rules}
use Rattle.table.proofs.Lent.{channel_lent, channel_back}
use Rattle.table.proofs.sites.push.Goals as goal

pub push-requires : goal.push-requires
push-requires c =
    let a = c.args in
    (search rules, rw (← channel_lent a.site.now a.p a.d _ c.channel_at-off.ensures.0 (omega arith) (omega arith)) c.requires.3)

pub returns : goal.returns
returns c = channel_back _ _ _ _ c.channel_at-off.ensures.0 _ _ c.push.ensures
