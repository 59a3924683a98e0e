use mathlib.Core.Path.{◌≡◌}
use mathlib.Core.Bool.{true}
use Rattle.codec.specs.Below.{all_below}
use Rattle.protocol.specs.Meaning.{setting_of}
use Rattle.table.specs.Parts.{session_of}
use Rattle.lawful.specs.WellFormed.{session_formed}
use Rattle.lawful.proofs.sessions_formed.Given as goal

abbrev pub invariant-loop-s : goal.invariant-loop-s
invariant-loop-s l = all_below l.s (λ k. session_formed (setting_of l.setting) (session_of l.t k)) ≡ true
