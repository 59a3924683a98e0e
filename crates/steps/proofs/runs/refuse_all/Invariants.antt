use Prim.Native.Nat.{ℕ}
use mathlib.Core.Path.{◌≡◌}
use mathlib.Core.List.{List}
use Rattle.steps.specs.Run.{ran, run_by, piece_refused}
use Rattle.steps.proofs.runs.refuse_all.Given as goal

abbrev pub invariant-loop-i : goal.invariant-loop-i
invariant-loop-i l = (t : List ℕ) → ran t l.b ≡ run_by (piece_refused l.reason) l.i t l.es l.initial.b
