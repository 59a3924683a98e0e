use mathlib.Core.Path.{◌≡◌}
use Prim.Native.Nat.{◌*◌}
use lib.Dec.{eqb}
use Rattle.codec.specs.Le.{load}
use Rattle.codec.specs.Below.{all_below}
use Rattle.lawful.proofs.kept.same_places.Given as goal

abbrev pub invariant-loop-i : goal.invariant-loop-i
invariant-loop-i l = l.same ≡ all_below l.i (λ j. eqb (load 8 l.a (8 * j)) (load 8 l.b (8 * j)))
