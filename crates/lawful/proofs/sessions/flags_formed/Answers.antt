-- `lawful::sessions::flags_formed` meets its contract: each flag is tested.
use borrow.Author.Rules.{rules}
use Rattle.codec.proofs.InRange.{all_in_range}
use Rattle.lawful.specs.WellFormed.{flags_at}
use Rattle.lawful.proofs.sessions.flags_formed.Goals as goal

pub returns : goal.returns
unfolding flags_at
returns c = all_in_range c.args.n _ c.all.ensures.ran (λ i b q k. search rules)
