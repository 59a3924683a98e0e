-- `vector::Vector::with_entry` meets its contract: a store of one entry.
use native.Mathlib.Omega.{arith}
use borrow.Author.Rules.{rules}
use Rattle.vector.proofs.Entries.{entry_set}
use Rattle.vector.proofs.Vector.with_entry.Goals as goal

pub returns : goal.returns
returns c = entry_set _ _ _ (search rules) (omega arith)
