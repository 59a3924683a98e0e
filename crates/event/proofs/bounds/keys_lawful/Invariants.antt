use mathlib.Core.Path.{◌≡◌}
use lib.Dec.{ltb}
use lib.ListN.{get_or}
use Rattle.codec.specs.Below.{all_below}
use Rattle.event.proofs.bounds.keys_lawful.Given as goal

abbrev pub invariant-loop-i : goal.invariant-loop-i
invariant-loop-i l = l.all ≡ all_below l.i (λ k. ltb (get_or l.keys k 0) 64)
