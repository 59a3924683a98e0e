-- A step on a well-formed table by its tests: an event of which a field is not lawful is refused with 11, and of any other the protocol decides with
-- its ranges met.
use Prim.Native.Nat.{ℕ}
use mathlib.Core.Path.{◌≡◌, refl, sym, ap, subst, ◌∙◌}
use mathlib.Core.Logic.{◌⊎◌, inl, inr}
use mathlib.Core.Bool.{Bool, true, false, cond, not, ◌&&◌}
use mathlib.Core.List.{List, [], ◌∷◌}
use lib.Dec.{T}
use mir.Facts.{T_not, and_yes, yes_and, and_no}
use Rattle.codec.proofs.Tests.{cond_yes, cond-not, cond_both}
use Rattle.protocol.specs.Record.{Setting}
use Rattle.protocol.specs.State.{State}
use Rattle.protocol.specs.Event.{Event, plain}
use Rattle.protocol.specs.declared.Answer.TheVariants.{Refused}
use Rattle.protocol.specs.declared.reasons.Reason.{Reason}
use Rattle.protocol.specs.Reason.{refusal_for}
use Rattle.protocol.specs.Needs.{Need, ranges}
use Rattle.protocol.specs.Serve.{Outcome, ◌and◌}
use Rattle.protocol.specs.Step.{step}
use Rattle.protocol.proofs.Judge.{Met, step_in_range, step_out_of_range}
use Rattle.event.specs.Event.{code_lawful, event_of, met}
use Rattle.event.specs.Fields.{unused_zero}
use Rattle.event.specs.Meaning.{IsRefusal}
use Rattle.table.specs.Decode.{setting_in, decode}
use Rattle.table.specs.Put.{put_changes}
use Rattle.table.specs.Fits.{FitsAll}
use Rattle.lawful.proofs.Fits.{step_fits}
use Rattle.lawful.proofs.Steps.{Sound}
use Rattle.decision.specs.Answered.{answered}
use Rattle.steps.specs.Step.{gives, refused, fields_test, step_on}

-- ---- tests that are known

pub is_yes : (b : Bool) → b ≡ true → T b
is_yes b e = rw e tt

pub yes_is : (b : Bool) → T b → b ≡ true
yes_is true t = refl
yes_is false t = absurd t

pub is_no : (b : Bool) → b ≡ false → T (not b)
is_no b e = rw e tt

-- ---- a step, where its ranges are met and where not

pub all_met : (ns : List Need) → T (met ns) → Met ns
unfolding met
all_met [] t = tt
all_met (n ∷ ns) t = let k = and_yes n.holds (met ns) t in (k.0, all_met ns k.1)

is_met : (ns : List Need) → Met ns → T (met ns)
unfolding met
is_met [] m = tt
is_met (n ∷ ns) m = yes_and n.holds (met ns) m.0 (is_met ns m.1)

abbrev met_by : State → Event → Bool
met_by S e = met (ranges S.net.setting e)

step-met : (S : State) (e : Event) → T (met_by S e) → step S e ≡ answered S e
unfolding answered
step-met S e t = step_in_range S e (all_met (ranges S.net.setting e) t)

step_unmet : (S : State) (e : Event) → T (not (met_by S e)) → step S e ≡ (Refused (plain 11) and [])
step_unmet S e t = step_out_of_range S e (λ m. T_not (met_by S e) (is_met (ranges S.net.setting e) m) t)

-- ---- the code's tests

pub test_by : (t e : List ℕ) (c : Setting) → c ≡ setting_in t → (unused_zero e && met (ranges c (event_of e))) ≡ fields_test t e
test_by t e c same = ap (λ d. unused_zero e && met (ranges d (event_of e))) same

pub test_holds : (t e : List ℕ) (c : Setting) → c ≡ setting_in t → (unused_zero e && met (ranges c (event_of e))) ≡ true → fields_test t e ≡ true
test_holds t e c same h = sym (test_by t e c same) ∙ h

pub code_unlawful : (t e : List ℕ) → T (not (code_lawful e)) → step_on t e ≡ refused 10 t
unfolding step_on
code_unlawful t e n = cond-not (code_lawful e) _ _ n

pub fields_unlawful : (t e : List ℕ) → T (code_lawful e) → T (not (fields_test t e)) → step_on t e ≡ refused 11 t
unfolding step_on put_changes
fields_unlawful t e l n = cond_yes (code_lawful e) _ _ l ∙ go (and_no (unused_zero e) (met (ranges (setting_in t) (event_of e))) n)
  where
    o : Outcome
    o = step (decode t) (event_of e)

    go : T (not (unused_zero e)) ⊎ T (not (met (ranges (setting_in t) (event_of e)))) → cond (unused_zero e) (gives o.says (put_changes o.changes t)) (refused 11 t) ≡ refused 11 t
    go (inl u) = cond-not (unused_zero e) _ _ u
    go (inr u) = ap (λ r. cond (unused_zero e) (gives r.says (put_changes r.changes t)) (refused 11 t)) (step_unmet (decode t) (event_of e) (unfold decode in u)) ∙ cond_both (unused_zero e) (refused 11 t)

pub fields_lawful_step : (t e : List ℕ) → T (code_lawful e) → T (fields_test t e) →
    step_on t e ≡ gives (answered (decode t) (event_of e)).says (put_changes (answered (decode t) (event_of e)).changes t)
unfolding step_on
fields_lawful_step t e l f =
    let k = and_yes (unused_zero e) (met (ranges (setting_in t) (event_of e))) f in
    cond_yes (code_lawful e) _ _ l ∙ cond_yes (unused_zero e) _ _ k.0
    ∙ ap (λ r. gives r.says (put_changes r.changes t)) (step-met (decode t) (event_of e) (unfold decode in k.1))

-- ---- what is decided is carried out, or turned away

module _ (t e : List ℕ) (o : Outcome) (l : T (code_lawful e)) (f : T (fields_test t e)) (says : o ≡ answered (decode t) (event_of e)) where
  decided_step : step (decode t) (event_of e) ≡ o
  decided_step = step-met (decode t) (event_of e) (unfold decode in (and_yes (unused_zero e) (met (ranges (setting_in t) (event_of e))) f).1) ∙ sym says

  pub decided_fits : (n : ℕ) → Sound n t → FitsAll o.changes t
  decided_fits n S = subst (λ (r : Outcome). FitsAll r.changes t) decided_step (step_fits t S.whole S.bytes S.formed (event_of e))

  pub decided_gives : step_on t e ≡ gives o.says (put_changes o.changes t)
  decided_gives = fields_lawful_step t e l f ∙ ap (λ r. gives r.says (put_changes r.changes t)) (sym says)

-- an event that is refused with 10 or 11
pub refused_gives : (t e : List ℕ) (w : Reason) → IsRefusal (code_lawful e) (fields_test t e) w → step_on t e ≡ gives (Refused (refusal_for w)) t
refused_gives t e _ (IsRefusal.unknown n) = code_unlawful t e (is_no (code_lawful e) n)
refused_gives t e _ (IsRefusal.unlawful l n) = fields_unlawful t e (is_yes (code_lawful e) l) (is_no (fields_test t e) n)
