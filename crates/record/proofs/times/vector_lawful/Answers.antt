-- `record::times::vector_lawful` meets its contract: each entry is tested.
use borrow.Author.Rules.{rules}
use Rattle.vector.specs.Entries.{entry}
use Rattle.record.specs.Ranges.{vec_lawful}
use Rattle.codec.proofs.InRange.{all_in_range}
use Rattle.record.proofs.times.vector_lawful.Goals as goal

pub returns : goal.returns
unfolding entry vec_lawful
returns c = all_in_range 4 _ c.all.ensures.ran (λ i b q k. search rules)
