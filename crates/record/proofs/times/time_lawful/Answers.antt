-- `record::times::time_lawful` meets its contract, as it is written.
use borrow.Author.Rules.{rules}
use Rattle.record.specs.Ranges.{time_lawful}
use Rattle.record.proofs.times.time_lawful.Goals as goal

pub returns : goal.returns
unfolding time_lawful
returns c = search rules
