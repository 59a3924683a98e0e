-- What a dispatcher on the event knows of it: that its ranges are met, each for itself.
use Prim.Native.Nat.{ℕ}
use mathlib.Core.Path.{◌≡◌, subst}
use mathlib.Core.Bool.{true}
use mathlib.Core.List.{List}
use Rattle.protocol.specs.Needs.{ranges}
use Rattle.protocol.proofs.Judge.{Met}
use Rattle.event.specs.declared.Event.{Event}
use Rattle.event.specs.Event.{met}
use Rattle.event.specs.Meaning.{as_event}
use Rattle.table.specs.Decode.{setting_in}
use Rattle.steps.proofs.Stepped.{is_yes, all_met}

-- where the event is v it computes: where v is OPEN, T (ltb site sites) × T (ltb session 16)
pub ranged : (t : List ℕ) (x v : Event) → x ≡ v → met (ranges (setting_in t) (as_event x)) ≡ true → Met (ranges (setting_in t) (as_event v))
ranged t x v e h = all_met _ (is_yes _ (subst (λ (y : Event). met (ranges (setting_in t) (as_event y)) ≡ true) e h))
