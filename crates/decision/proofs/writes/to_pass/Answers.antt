-- `decision::writes::to_pass` meets its contract.
use Prim.Native.Nat.{max}
use mathlib.Core.Path.{ap₂, ◌∙◌}
use Rattle.decision.proofs.writes.to_pass.Goals as goal

pub returns : goal.returns
returns c = c.later.ensures ∙ ap₂ max c.largest-seen.ensures c.own-latest.ensures
