use mathlib.Core.Path.{◌≡◌}
use mathlib.Core.Bool.{true, not, ◌&&◌}
use Prim.Native.Nat.{◌+◌}
use lib.Dec.{ltb}
use Rattle.codec.specs.Le.{load}
use Rattle.codec.specs.Below.{all_below}
use Rattle.codec.specs.Tabulate.{tabulate}
use Rattle.codec.specs.Lists.{has}
use Rattle.lawful.proofs.pages.keys_formed.Given as goal

abbrev pub invariant-loop-i : goal.invariant-loop-i
invariant-loop-i l = all_below l.i (λ k. ltb (load 1 l.b (l.at + k)) 64 && not (has (tabulate k (λ j. load 1 l.b (l.at + j))) (load 1 l.b (l.at + k)))) ≡ true
