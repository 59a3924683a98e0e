-- A piece on a sound table by its length; that it leaves the table sound; and runs, one piece more as the code counts.
use Prim.Native.Nat.{ℕ, ◌+◌, ◌*◌}
use native.Mathlib.Numerals.{add-one}
use mathlib.Core.Path.{◌≡◌, refl, sym, ap, subst, ◌∙◌}
use mathlib.Core.Logic.{◌≢◌}
use mathlib.Core.Bool.{Bool, true, false, cond}
use mathlib.Core.List.{List}
use lib.Dec.{eqb}
use lib.ListN.{length}
use borrow.Author.Tests.{eq-eqb, ne_eqb}
use Rattle.codec.proofs.Tests.{cond_elim}
use Rattle.protocol.specs.declared.Answer.{Answer}
use Rattle.protocol.specs.declared.Answer.TheVariants.{Refused}
use Rattle.protocol.specs.declared.reasons.Reason.{Reason}
use Rattle.protocol.specs.Event.{plain}
use Rattle.protocol.specs.Reason.{refusal_for}
use Rattle.event.specs.Event.{code_lawful, event_of}
use Rattle.event.specs.Fields.{unused_zero}
use Rattle.lawful.proofs.Steps.{Sound, step_sound}
use Rattle.reader.specs.Pieces.{piece_of}
use Rattle.steps.specs.Step.{Called, gives, refused, step_on}
use Rattle.steps.specs.Run.{put_answer, ran, piece_answered, run_by, piece_call, piece_refused}

module _ (t e : List ℕ) where
  pub piece_whole : length e ≡ 32 → piece_call t e ≡ step_on t e
  unfolding piece_call
  piece_whole l = rw (eq-eqb (length e) 32 l)

  pub piece_short : length e ≢ 32 → piece_call t e ≡ refused 23 t
  unfolding piece_call
  piece_short d = rw (ne_eqb (length e) 32 d)

  pub step_keeps : (n : ℕ) → Sound n t → Sound n (step_on t e).table
  unfolding step_on
  step_keeps n S =
      cond_elim (λ (c : Called). Sound n c.table) (code_lawful e)
      (λ a. cond_elim (λ (c : Called). Sound n c.table) (unused_zero e) (λ b. step_sound n t S (event_of e)) (λ b. S)) (λ a. S)

  pub piece_keeps : (n : ℕ) → Sound n t → Sound n (piece_call t e).table
  unfolding piece_call
  piece_keeps n S = cond_elim (λ (c : Called). Sound n c.table) (eqb (length e) 32) (λ a. step_keeps n S) (λ a. S)

pub piece_answered_lem : (i : ℕ) (t es b e u w : List ℕ) (a : Answer) → e ≡ piece_of es i → gives a u ≡ piece_call t e → w ≡ put_answer b (16 * i) a → ran u w ≡ piece_answered piece_call i t es b
unfolding piece_answered
piece_answered_lem i t es b e u w a q c z =
    let d : gives a u ≡ piece_call t (piece_of es i) = c ∙ ap (piece_call t) q in
    ap (ran u) z ∙ ap (λ r. ran r.table (put_answer b (16 * i) r.answer)) d

-- ---- runs, by any call

module _ (call : (table event : List ℕ) → Called) (t es b : List ℕ) where
  pub run_none : ran t b ≡ run_by call 0 t es b
  unfolding run_by
  run_none = refl

  pub run_step : (i : ℕ) (u v u' v' : List ℕ) → ran u v ≡ run_by call i t es b → ran u' v' ≡ piece_answered call i u es v → ran u' v' ≡ run_by call (i + 1) t es b
  unfolding run_by
  run_step i u v u' v' r s = rw (add-one i) (s ∙ ap (λ x. piece_answered call i x.table es x.answers) r)

pub answered_sound : (n : ℕ) (t es b : List ℕ) (i : ℕ) (u w : List ℕ) → ran u w ≡ piece_answered piece_call i t es b → Sound n t → Sound n u
unfolding piece_answered
answered_sound n t es b i u w r S = subst (Sound n) (sym (ap (λ x. x.table) r)) (piece_keeps t (piece_of es i) n S)

-- ---- a table that is refused

pub away_by : (w v : Reason) (i : ℕ) (es b e z : List ℕ) (a : Answer) → e ≡ piece_of es i → v ≡ cond (eqb (length e) 32) w Reason.WrongLength → a ≡ Refused (refusal_for v)
    → z ≡ put_answer b (16 * i) a → (t : List ℕ) → ran t z ≡ piece_answered (piece_refused w) i t es b
unfolding piece_answered piece_refused
away_by w v i es b e z a q m r put t =
    ap (ran t) (put ∙ ap (put_answer b (16 * i)) (r ∙ ap Refused (ap refusal_for m ∙ cond_of refusal_for (eqb (length e) 32) w Reason.WrongLength) ∙ ap (λ (x : List ℕ). Refused (cond (eqb (length x) 32) (refusal_for w) (plain 23))) q))
  where
    cond_of : {A B : Type 0} (f : A → B) (c : Bool) (x y : A) → f (cond c x y) ≡ cond c (f x) (f y)
    cond_of f true x y = refl
    cond_of f false x y = refl
