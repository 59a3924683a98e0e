-- Four stand-ins that might pass for an archive do not meet the promise of `step`: each would give something else than `step_call` on a table that setup and a few events
-- lead to.
use Prim.Native.Nat.{ℕ}
use native.Mathlib.Omega.{arith}
use mathlib.Core.Path.{◌≡◌, refl, sym, ap, ◌∙◌}
use mathlib.Core.Bool.{true, false}
use mathlib.Core.List.{List, [], ◌∷◌}
use lib.Dec.{T}
use lib.IntN.{ℤ, pos}
use lib.ListN.{length}
use Rattle.codec.specs.Le.{load}
use Rattle.codec.specs.Level.{level_from}
use Rattle.codec.specs.Below.{all_below}
use Rattle.codec.specs.Tabulate.{tabulate}
use Rattle.protocol.specs.Record.{Setting}
use Rattle.protocol.specs.State.{setup}
use Rattle.protocol.specs.Event.{DELIVER}
use Rattle.protocol.specs.declared.Refusal.{Refusal}
use Rattle.protocol.specs.declared.Reading.{Reading}
use Rattle.protocol.specs.declared.Answer.TheVariants.{Done, Value, Refused}
use Rattle.protocol.specs.Step.{step, next, after}
use Rattle.protocol.proofs.Runs.{computing, showing}
use Rattle.event.specs.Event.{code_lawful, event_of}
use Rattle.event.specs.Fields.{uses, zero_at, rest_zero, unused_zero}
use Rattle.table.specs.Parts.{table_length}
use Rattle.table.specs.Decode.{decode}
use Rattle.table.specs.Put.{fresh}
use Rattle.lawful.specs.LawfulValues.{setting_lawful}
use Rattle.lawful.proofs.Facts.{setting_lawful_lem}
use Rattle.lawful.proofs.Steps.{Sound, fresh_sound, fresh-says}
use Rattle.steps.specs.Step.{Called}
use Rattle.archive.specs.Call.{step_call}
use Rattle.archive.specs.Story.{is_event, events_of, table_after}
use Rattle.archive.proofs.Story.{step-event, decode-step, told, after_sound}

-- ---- what is promised of a step, and a table to try it on

abbrev Step : Type 0
Step = (table event : List ℕ) → Called

abbrev Meets : Step → Type 0
Meets F = (t e : List ℕ) → F t e ≡ step_call t e

unfoldable four : Setting
four = record { sites = 4; partitions = 4 }

unfoldable table : List ℕ
table = fresh four

lawful_four : T (setting_lawful four)
unfolding four
lawful_four = setting_lawful_lem four (omega arith) (omega arith) (omega arith) (omega arith)

sound : Sound table_length table
unfolding table
sound = fresh_sound four lawful_four

says : decode table ≡ setup four
unfolding table
says = fresh-says four lawful_four

-- an event with small numbers
abbrev event : (code site partition session from time level : ℕ) → List ℕ
event c m p s i t l = c ∷ m ∷ p ∷ s ∷ 0 ∷ 0 ∷ i ∷ 0 ∷ t ∷ 0 ∷ 0 ∷ 0 ∷ 0 ∷ 0 ∷ 0 ∷ 0 ∷ l ∷ 0 ∷ 0 ∷ 0 ∷ 0 ∷ 0 ∷ 0 ∷ 0 ∷ 0 ∷ 0 ∷ 0 ∷ 0 ∷ 0 ∷ 0 ∷ 0 ∷ 0 ∷ []

unfoldable opens : List ℕ
opens = event 1 0 0 0 0 0 0

unfoldable clock_to : ℕ → List ℕ
clock_to t = event 3 0 0 0 0 t 0

unfoldable puts_level : ℕ → List ℕ
puts_level l = event 5 0 0 0 0 0 l

unfoldable gets : List ℕ
gets = event 4 0 0 0 0 0 0

unfoldable delivers : List ℕ
delivers = event 10 1 0 0 0 0 0

-- a proof that unfolds this lets the checker compute whole runs from bytes
unfoldable reading : Unit {0}
unfolding computing after four opens clock_to puts_level gets delivers is_event events_of code_lawful unused_zero uses zero_at rest_zero event_of load level_from tabulate all_below
reading = tt

-- what `step` answers after some events, and what its table then says, by the protocol
module _ (es : List (List ℕ)) (e : List ℕ) (i : T (is_event e)) where
  answer_is : (step_call (table_after table es) e).answer ≡ (step (after (setup four) (events_of es)) (event_of e)).says
  answer_is =
      ap (λ c. c.answer) (step-event (table_after table es) e (after_sound table es sound) i)
      ∙ ap (λ S. (step S (event_of e)).says) ((told table es sound).state ∙ ap (λ S. after S (events_of es)) says)

  state_is : decode (step_call (table_after table es) e).table ≡ next (after (setup four) (events_of es)) (event_of e)
  state_is =
      decode-step (table_after table es) e (after_sound table es sound) i
      ∙ ap (λ S. next S (event_of e)) ((told table es sound).state ∙ ap (λ S. after S (events_of es)) says)

-- ---- 1. one that refuses or waits every time

opens_done : (step_call table opens).answer ≡ Done
unfolding reading table_after
opens_done = answer_is [] opens tt

always_refuses : (F : Step) → ((t e : List ℕ) → (w : Refusal) × ((F t e).answer ≡ Refused w)) → Meets F → ⊥
always_refuses F r m =
    let w = r table opens in
    let q : Refused w.0 ≡ Done = sym w.1 ∙ ap (λ c. c.answer) (m table opens) ∙ opens_done in
    let z : ◌≡◌ {A = ℕ} 0 1 = cc in
    omega arith

-- ---- 2. one that shows the same level every time

shows : (l : ℕ) → List (List ℕ)
shows l = opens ∷ clock_to 1 ∷ puts_level l ∷ []

shows_one : (step_call (table_after table (shows 1)) gets).answer ≡ showing 0 0 (pos 1) 1
unfolding reading shows
shows_one = answer_is (shows 1) gets tt

shows_two : (step_call (table_after table (shows 2)) gets).answer ≡ showing 0 0 (pos 2) 1
unfolding reading shows
shows_two = answer_is (shows 2) gets tt

same_level : (F : Step) (l : ℤ) → ((t e : List ℕ) (v : Reading) → (F t e).answer ≡ Value v → v.level ≡ l) → Meets F → ⊥
same_level F l r m =
    let a : pos 1 ≡ l = r (table_after table (shows 1)) gets _ (ap (λ c. c.answer) (m (table_after table (shows 1)) gets) ∙ shows_one) in
    let b : pos 2 ≡ l = r (table_after table (shows 2)) gets _ (ap (λ c. c.answer) (m (table_after table (shows 2)) gets) ∙ shows_two) in
    let z : pos 1 ≡ pos 2 = a ∙ sym b in
    let n : ◌≡◌ {A = ℕ} 1 2 = cc in
    omega arith

-- ---- 3. one that leaves the table untouched

opens_says : ((decode (step_call table opens).table).session 0).is_open ≡ true
unfolding reading table_after
opens_says = ap (λ S. (S.session 0).is_open) (state_is [] opens tt)

closed_before : ((decode table).session 0).is_open ≡ false
unfolding computing
closed_before = ap (λ S. (S.session 0).is_open) says

untouched : (F : Step) → ((t e : List ℕ) → (F t e).table ≡ t) → Meets F → ⊥
untouched F r m =
    let q : true ≡ false = sym opens_says ∙ ap (λ u. ((decode u).session 0).is_open) (sym (ap (λ c. c.table) (m table opens)) ∙ r table opens) ∙ closed_before in
    let z : ◌≡◌ {A = ℕ} 0 1 = cc in
    omega arith

-- ---- 4. one that empties a channel at the first DELIVER and pretends later

twice : List (List ℕ)
twice = opens ∷ clock_to 1 ∷ puts_level 1 ∷ clock_to 2 ∷ puts_level 2 ∷ []

one_left : length ((decode (step_call (table_after table twice) delivers).table).net.chan 0 1 0) ≡ 1
unfolding reading twice
one_left = ap (λ S. length (S.net.chan 0 1 0)) (state_is twice delivers tt)

empties : (F : Step) → ((t e : List ℕ) (i m p : ℕ) → event_of e ≡ DELIVER i m p → (decode (F t e).table).net.chan i m p ≡ []) → Meets F → ⊥
unfolding reading
empties F r m =
    let q : (decode (step_call (table_after table twice) delivers).table).net.chan 0 1 0 ≡ [] = ap (λ c. (decode c.table).net.chan 0 1 0) (sym (m (table_after table twice) delivers)) ∙ r (table_after table twice) delivers 0 1 0 refl in
    let z = sym one_left ∙ ap length q in
    omega arith
