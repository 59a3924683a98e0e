use mathlib.Core.Path.{◌≡◌}
use mathlib.Core.Bool.{false, ◌||◌}
use Prim.Native.Nat.{ℕ, ◌<◌}
use lib.Dec.{eqb}
use lib.ListN.{length, get_or}
use Rattle.parts.proofs.Marks.with_read.Given as goal

abbrev pub invariant-loop-i : goal.invariant-loop-i
invariant-loop-i l = (length l.read ≡ 8) × ((j : ℕ) → j < l.i → get_or l.read j false ≡ (get_or l.self.read j false || eqb (get_or l.self.page.keys j 0) l.k))
