-- `parts::sessions::load_read` meets its contract: the first i are loaded.
use mathlib.Core.Bool.{false}
use mathlib.Core.Path.{◌≡◌}
use Prim.Native.Nat.{ℕ, ◌+◌, ◌<◌}
use lib.ListN.{get_or}
use lib.Dec.{eqb}
use Rattle.codec.specs.Le.{load}
use Rattle.parts.proofs.sessions.load_read.Given as goal

abbrev pub invariant-loop-i : goal.invariant-loop-i
invariant-loop-i l = (k : ℕ) → k < l.i → get_or l.mark-items k false ≡ eqb (load 1 l.b (16 + k)) 1
