-- The theorems carried to the bytes. In order: one call of `step` on a sound table (of the right length and well formed), any list of event byte strings
-- as a list of the protocol's events, from setup, and the promises.
use Prim.Native.Nat.{ℕ, zero, suc, ◌+◌, ◌≤◌}
use native.Mathlib.Nat.{zero-add}
use native.Mathlib.Omega.{arith}
use mathlib.Core.Path.{◌≡◌, refl, sym, ap, ap₂, subst, ◌∙◌}
use mathlib.Core.Logic.{◌≢◌}
use mathlib.Core.Bool.{Bool, true, false, cond, not, ◌&&◌}
use mathlib.Core.List.{List, [], ◌∷◌, ◌++◌}
use lib.Dec.{T, eqb}
use lib.ListN.{length}
use mir.Facts.{T_not, and_yes, yes_and}
use Rattle.codec.specs.Tabulate.{tabulate}
use Rattle.codec.proofs.Tests.{yes_eqb, cond_yes, cond-not}
use Rattle.codec.proofs.Tabulate.{tab_snoc}
use Rattle.vector.specs.Vec.{width}
use Rattle.protocol.specs.Record.{Setting}
use Rattle.protocol.specs.State.{State, setup}
use Rattle.protocol.specs.Event.{number_of}
use Rattle.protocol.specs.View.{place}
use Rattle.protocol.specs.Step.{step, next, after, log}
use Rattle.protocol.specs.Past.{served, history}
use Rattle.protocol.specs.Causal.{GetCausal}
use Rattle.protocol.specs.Count.{written_at, taken_at, delivered, waiting}
use Rattle.protocol.proofs.Conserve.{conserved}
use Rattle.protocol.proofs.Numbers.{number_plain, no_24}
use Rattle.protocol.proofs.Causal as Protocol
use Rattle.event.specs.Event.{code_lawful, event_of}
use Rattle.event.specs.Fields.{unused_zero}
use Rattle.table.specs.Parts.{table_length}
use Rattle.table.specs.Decode.{decode}
use Rattle.table.specs.Put.{fresh}
use Rattle.lawful.specs.LawfulValues.{setting_lawful}
use Rattle.lawful.specs.WellFormed.{well_formed}
use Rattle.lawful.proofs.Facts.{setting_facts}
use Rattle.lawful.proofs.Steps.{Sound, fresh_sound, fresh-says, step_sound, step-says}
use Rattle.reader.specs.Pieces.{piece_of}
use Rattle.steps.specs.Step.{Called, refused, step_on}
use Rattle.steps.specs.Run.{piece_answered, run_by}
use Rattle.archive.specs.Call.{step_call, setup_call}
use Rattle.archive.specs.Run.{pieces_of, run_call}
use Rattle.archive.specs.Story.{is_event, events_of, table_after, lines_of, delivered_of}
use Rattle.archive.specs.Promises.{set_up, Faithful, CausalGetBytes, CausalPageBytes, ConservedBytes, NeverIll, RunIsSteps}
use Rattle.archive.proofs.Calls.{stepped, call_elim}

-- ---- a test that is known

and_known : (a b : Bool) → T a → (a && b) ≡ b
and_known true b t = refl
and_known false b t = absurd t

and_unknown : (a b : Bool) → T (not a) → (a && b) ≡ false
and_unknown true b t = absurd t
and_unknown false b t = refl

-- ---- one call

pub call_event : (t e : List ℕ) → length t ≡ table_length → T (well_formed t) → T (is_event e) → step_call t e ≡ stepped t e
unfolding step_call step_on is_event
call_event t e size formed i =
    let a = and_yes (eqb (length e) 32) (code_lawful e && unused_zero e) i in
    let b = and_yes (code_lawful e) (unused_zero e) a.1 in
    cond_yes (eqb (length t) table_length && eqb (length e) 32) _ _ (yes_and (eqb (length t) table_length) (eqb (length e) 32) (yes_eqb (length t) table_length size) a.0)
    ∙ cond_yes (well_formed t) _ _ formed
    ∙ cond_yes (code_lawful e) _ _ b.0
    ∙ cond_yes (unused_zero e) _ _ b.1

pub step-event : (t e : List ℕ) → Sound table_length t → T (is_event e) → step_call t e ≡ stepped t e
step-event t e R i = call_event t e R.size R.formed i

-- bytes that are no event are refused before the protocol, and not with 24
record Turned (t : List ℕ) (c : Called) : Type 0 where
  table : c.table ≡ t
  number : number_of c.answer ≢ 24

turned_by : (t : List ℕ) (n : ℕ) → n ≢ 24 → Turned t (refused n t)
turned_by t n d = record { table = refl; number = rw (number_plain n) d }

step_other : (t e : List ℕ) → Sound table_length t → T (not (is_event e)) → Turned t (step_call t e)
step_other t e R i =
    call_elim t e (Turned t) (turned_by t 23 (omega arith)) (λ w. absurd (T_not (well_formed t) R.formed w)) (turned_by t 10 (omega arith)) (turned_by t 11 (omega arith))
    (λ j w. absurd (T_not (is_event e) j i))

pub call_sound : (t e : List ℕ) → Sound table_length t → Sound table_length (step_call t e).table
call_sound t e R = go (is_event e) (λ i. i) (λ i. i)
  where
    go : (b : Bool) → (T b → T (is_event e)) → (T (not b) → T (not (is_event e))) → Sound table_length (step_call t e).table
    go true f g = rw (step-event t e R (f tt)) (step_sound table_length t R (event_of e))
    go false f g = rw (step_other t e R (g tt)).table R

-- ---- many calls: the protocol's events among the byte strings

pub after_sound : (t : List ℕ) (es : List (List ℕ)) → Sound table_length t → Sound table_length (table_after t es)
unfolding table_after
after_sound t [] R = R
after_sound t (e ∷ es) R = after_sound (step_call t e).table es (call_sound t e R)

pub decode-step : (t e : List ℕ) → Sound table_length t → T (is_event e) → decode (step_call t e).table ≡ next (decode t) (event_of e)
unfolding next
decode-step t e R i = ap (λ c. decode c.table) (step-event t e R i) ∙ step-says table_length t R (event_of e)

-- what is told of a run over bytes, and of the protocol's run
pub record Told (t : List ℕ) (es : List (List ℕ)) (S : State) : Type 1 where
  pub state : decode (table_after t es) ≡ after S (events_of es)
  pub lines : lines_of t es ≡ log S (events_of es)
  pub counts : (i m p : ℕ) → delivered_of i m p t es ≡ delivered i m p S (events_of es)

told_event : (t e : List ℕ) (es : List (List ℕ)) → Sound table_length t → T (is_event e) → Told (step_call t e).table es (decode (step_call t e).table) → Told t (e ∷ es) (decode t)
unfolding table_after lines_of delivered_of after log delivered events_of
told_event t e es R i I = record {
  state = I.state ∙ ap (λ S. after S (events_of es)) D ∙ sym (ap (after (decode t)) E);
  lines = cond_yes (is_event e) _ _ i ∙ (λ j. record { event = event_of e; says = A j } ∷ L j) ∙ sym (ap (log (decode t)) E);
  counts = λ g m p.
      ap₂ ◌+◌ (ap (λ b. cond b 1 0) (and_known (is_event e) (served (step_call t e).answer && taken_at g m p (decode t).net (place (event_of e))) i) ∙ ap (λ a. cond (served a && taken_at g m p (decode t).net (place (event_of e))) 1 0) A)
      (I.counts g m p ∙ ap (λ S. delivered g m p S (events_of es)) D)
      ∙ sym (ap (delivered g m p (decode t)) E);
}
  where
    D : decode (step_call t e).table ≡ next (decode t) (event_of e)
    D = decode-step t e R i

    A : (step_call t e).answer ≡ (step (decode t) (event_of e)).says
    A = ap (λ c. c.answer) (step-event t e R i)

    L : lines_of (step_call t e).table es ≡ log (next (decode t) (event_of e)) (events_of es)
    L = I.lines ∙ ap (λ S. log S (events_of es)) D

    E : cond (is_event e) (event_of e ∷ events_of es) (events_of es) ≡ event_of e ∷ events_of es
    E = cond_yes (is_event e) _ _ i

told_other : (t e : List ℕ) (es : List (List ℕ)) → Sound table_length t → T (not (is_event e)) → Told (step_call t e).table es (decode (step_call t e).table) → Told t (e ∷ es) (decode t)
unfolding table_after lines_of delivered_of events_of
told_other t e es R i I = record {
  state = I.state ∙ ap (λ u. after (decode u) (events_of es)) D ∙ sym (ap (after (decode t)) E);
  lines = cond-not (is_event e) _ _ i ∙ I.lines ∙ ap (λ u. log (decode u) (events_of es)) D ∙ sym (ap (log (decode t)) E);
  counts = λ g m p.
      ap₂ ◌+◌ (ap (λ b. cond b 1 0) (and_unknown (is_event e) (served (step_call t e).answer && taken_at g m p (decode t).net (place (event_of e))) i))
      (I.counts g m p ∙ ap (λ u. delivered g m p (decode u) (events_of es)) D)
      ∙ zero-add (delivered g m p (decode t) (events_of es))
      ∙ sym (ap (delivered g m p (decode t)) E);
}
  where
    D : (step_call t e).table ≡ t
    D = (step_other t e R i).table

    E : cond (is_event e) (event_of e ∷ events_of es) (events_of es) ≡ events_of es
    E = cond-not (is_event e) _ _ i

pub told : (t : List ℕ) (es : List (List ℕ)) → Sound table_length t → Told t es (decode t)
unfolding table_after lines_of delivered_of after log delivered events_of
told t [] R = record { state = refl; lines = refl; counts = λ g m p. refl }
told t (e ∷ es) R = go (is_event e) (λ i. i) (λ i. i) (told (step_call t e).table es (call_sound t e R))
  where
    go : (b : Bool) → (T b → T (is_event e)) → (T (not b) → T (not (is_event e))) → Told (step_call t e).table es (decode (step_call t e).table) → Told t (e ∷ es) (decode t)
    go true f g I = told_event t e es R (f tt) I
    go false f g I = told_other t e es R (g tt) I

-- ---- from setup

module _ (c : Setting) (l : T (setting_lawful c)) (t : List ℕ) (long : length t ≡ table_length) where
  set_up_lem : set_up c t ≡ fresh c
  unfolding setup_call
  set_up_lem = ap (λ r. r.table) (cond_yes (eqb (length t) table_length) _ (refused 23 t) (yes_eqb (length t) table_length long) ∙ cond_yes (setting_lawful c) _ (refused 11 t) l)

  set_up_sound : Sound table_length (set_up c t)
  set_up_sound = rw set_up_lem (fresh_sound c l)

  decode-set_up : decode (set_up c t) ≡ setup c
  decode-set_up = ap decode set_up_lem ∙ fresh-says c l

  run_told : (es : List (List ℕ)) → Told (set_up c t) es (setup c)
  run_told es = subst (Told (set_up c t) es) decode-set_up (told (set_up c t) es set_up_sound)

  run_sound : (es : List (List ℕ)) → Sound table_length (table_after (set_up c t) es)
  run_sound es = after_sound (set_up c t) es set_up_sound

  few : c.sites ≤ width
  few = (setting_facts c l).1

-- ---- the promises

pub faithful : Faithful
faithful c l t long es = let K = run_told c l t long es in (K.state, K.lines)

pub causal_get_bytes : CausalGetBytes
causal_get_bytes c l t long es e s k i g =
    let K = run_told c l t long es in
    let R = run_sound c l t long es in
    subst (λ ls. GetCausal c (history ls) s k (step_call (table_after (set_up c t) es) e).answer) (sym K.lines)
    (subst (λ a. GetCausal c (history (log (setup c) (events_of es))) s k a)
    (sym (ap (λ r. r.answer) (step-event (table_after (set_up c t) es) e R i) ∙ ap (λ S. (step S (event_of e)).says) K.state ∙ ap (λ v. (step (after (setup c) (events_of es)) v).says) g))
    (Protocol.causal_get c (few c l t long) (events_of es) s k))

pub causal_page-bytes : CausalPageBytes
causal_page-bytes c l t long es s = rw (run_told c l t long es).lines (Protocol.causal_page c (few c l t long) (events_of es) s)

pub conserved_bytes : ConservedBytes
conserved_bytes c l t long es i m p d b =
    let K = run_told c l t long es in
    ap (λ ls. written_at c i p (history ls).writes) K.lines ∙ conserved c (events_of es) i m p d b
    ∙ ap₂ ◌+◌ (sym (K.counts i m p)) (ap (λ S. waiting (S.net.chan i m p)) (sym K.state))

pub never_ill : NeverIll
never_ill c l t long es e = go (is_event e) (λ i. i) (λ i. i)
  where
    R : Sound table_length (table_after (set_up c t) es)
    R = run_sound c l t long es

    go : (b : Bool) → (T b → T (is_event e)) → (T (not b) → T (not (is_event e))) → number_of (step_call (table_after (set_up c t) es) e).answer ≢ 24
    go true f g = rw (step-event (table_after (set_up c t) es) e R (f tt)) (no_24 (decode (table_after (set_up c t) es)) (event_of e))
    go false f g = (step_other (table_after (set_up c t) es) e R (g tt)).number

-- ---- run

after_more : (t : List ℕ) (es : List (List ℕ)) (e : List ℕ) → table_after t (es ++ (e ∷ [])) ≡ (step_call (table_after t es) e).table
unfolding table_after
after_more t [] e = refl
after_more t (d ∷ es) e = after_more (step_call t d).table es e

run_after : (t es b : List ℕ) (n : ℕ) → (run_by step_call n t es b).table ≡ table_after t (tabulate n (piece_of es))
unfolding run_by piece_answered
run_after t es b zero = unfold tabulate table_after in refl
run_after t es b (suc n) =
    ap (λ u. (step_call u (piece_of es n)).table) (run_after t es b n)
    ∙ sym (ap (table_after t) (tab_snoc n (piece_of es)) ∙ after_more t (tabulate n (piece_of es)) (piece_of es n))

pub run_is_steps : RunIsSteps
unfolding run_call
run_is_steps t es b = run_after t es b (pieces_of es b)
