use mathlib.Core.Path.{◌≡◌}
use mathlib.Core.Bool.{◌||◌}
use lib.Dec.{leb, eqb}
use Rattle.codec.specs.Below.{all_below}
use Rattle.vector.specs.Entries.{entry}
use Rattle.vector.proofs.Vector.at_most_but.Given as goal

abbrev pub invariant-loop-i : goal.invariant-loop-i
invariant-loop-i l = l.all ≡ all_below l.i (λ k. eqb k l.m || leb (entry l.u k) (entry l.v k))
