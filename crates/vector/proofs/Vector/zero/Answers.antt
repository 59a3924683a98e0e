-- `vector::Vector::zero` meets its contract, by computing.
use Rattle.vector.proofs.Entries.{entry-zeros}
use Rattle.vector.proofs.Vector.zero.Goals as goal

pub returns : goal.returns
returns c = entry-zeros
