use mathlib.Core.Path.{◌≡◌}
use mathlib.Core.Bool.{◌||◌}
use Prim.Native.Nat.{◌+◌}
use lib.Dec.{ltb, eqb}
use Rattle.codec.specs.Le.{load}
use Rattle.codec.specs.Below.{all_below}
use Rattle.event.proofs.flags.rest_zero.Given as goal

abbrev pub invariant-loop-i : goal.invariant-loop-i
invariant-loop-i l = l.all ≡ all_below l.i (λ k. ltb k (load 1 l.e 7) || eqb (load 1 l.e (20 + k)) 0)
