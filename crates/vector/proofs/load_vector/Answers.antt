-- `vector::load_vector` meets its contract: each of the four entries is loaded.
use borrow.Author.Rules.{rules}
use Rattle.vector.specs.Entries.{entry, load_vec}
use Rattle.vector.proofs.Entries.{entry_is, each_site, load_vec-beyond}
use Rattle.vector.proofs.load_vector.Goals as goal

pub returns : goal.returns
unfolding entry load_vec
returns c =
    entry_is _ _ c.from_fn.ensures.items.long (load_vec-beyond _ _)
    (each_site _ (search rules) (search rules) (search rules) (search rules))
