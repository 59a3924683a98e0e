-- `lawful::sites::channels_formed` meets its contract: each channel is tested.
use borrow.Author.Rules.{rules}
use Rattle.codec.proofs.InRange.{all_in_range}
use Rattle.lawful.proofs.sites.channels_formed.Goals as goal

pub returns : goal.returns
returns c = all_in_range 3 _ c.all.ensures.ran (λ d b q k. search rules)
