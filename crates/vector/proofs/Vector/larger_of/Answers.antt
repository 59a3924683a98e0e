-- `vector::Vector::larger_of` meets its contract: each of the four entries is the larger one.
use borrow.Author.Rules.{rules}
use Rattle.vector.specs.Vec.{larger}
use Rattle.vector.specs.Entries.{entry}
use Rattle.vector.proofs.Entries.{entry_is, each_site, larger_narrow}
use Rattle.vector.proofs.Vector.larger_of.Goals as goal

pub returns : goal.returns
unfolding entry larger
returns c =
    entry_is _ _ c.from_fn.ensures.items.long (larger_narrow _ _ (search rules) (search rules))
    (each_site _ (search rules) (search rules) (search rules) (search rules))
