-- `lawful::channels::messages_formed` meets its contract: each message is tested.
use borrow.Author.Rules.{rules}
use Rattle.codec.proofs.InRange.{all_in_range}
use Rattle.lawful.proofs.channels.messages_formed.Goals as goal

pub returns : goal.returns
returns c = all_in_range c.args.wait _ c.all.ensures.ran (λ k b q w. search rules)
