-- Many events at once (R62): what `step` gives one by one, for as many pieces as there are places for answers.
use Rattle.std.specs.Prelude.{ℕ, ◌+◌, ◌/◌, min, List, length}
use Rattle.steps.specs.Run.{Ran, run_by}
use Rattle.archive.specs.Call.{step_call}

-- how many pieces are stepped
unfoldable pub pieces_of : (events answers : List ℕ) → ℕ
pieces_of es b = min ((length es + 31) / 32) (length b / 16)

unfoldable pub run_call : (table events answers : List ℕ) → Ran
run_call t es b = run_by step_call (pieces_of es b) t es b
