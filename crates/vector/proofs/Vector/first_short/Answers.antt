-- `vector::Vector::first_short` meets its contract: no entry is spared.
use Rattle.vector.proofs.Entries.{at_most_but_none, first_short_but_none}
use Rattle.vector.proofs.Vector.first_short.Goals as goal

pub returns-clause-named : goal.returns-clause-named
returns-clause-named c = rw first_short_but_none at c.first_short_but.ensures.named

pub returns-clause-known : goal.returns-clause-known
returns-clause-known c = rw (at_most_but_none, first_short_but_none) at c.first_short_but.ensures.known
