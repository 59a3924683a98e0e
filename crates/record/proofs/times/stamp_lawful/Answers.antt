-- `record::times::stamp_lawful` meets its contract, as it is written.
use borrow.Author.Rules.{rules}
use Rattle.protocol.specs.Times.{top_of}
use Rattle.record.specs.Ranges.{stamp_lawful}
use Rattle.record.proofs.times.stamp_lawful.Goals as goal

pub returns : goal.returns
unfolding stamp_lawful top_of
returns c = search rules
