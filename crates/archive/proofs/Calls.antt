-- What the public calls give, by the tests of their code.
use Prim.Native.Nat.{ℕ, zero, suc, ◌*◌}
use mathlib.Core.Path.{◌≡◌, refl, ap, ◌∙◌}
use mathlib.Core.Logic.{◌≢◌}
use mathlib.Core.Bool.{Bool, true, false, cond, not, ◌&&◌}
use mathlib.Core.List.{List}
use lib.Dec.{T, eqb}
use lib.ListN.{length, replicate}
use mir.Facts.{and_yes, yes_and}
use borrow.Author.Tests.{eq-eqb, ne_eqb}
use Rattle.codec.specs.Le.{put}
use Rattle.codec.proofs.Tests.{cond_elim}
use Rattle.protocol.specs.declared.Answer.TheVariants.{Done, Refused}
use Rattle.protocol.specs.declared.reasons.Reason.{Reason}
use Rattle.protocol.specs.Event.{plain}
use Rattle.protocol.specs.Step.{step}
use Rattle.event.specs.Event.{code_lawful, event_of}
use Rattle.event.specs.Fields.{unused_zero}
use Rattle.table.specs.Decode.{decode}
use Rattle.table.specs.Put.{put_changes, fresh}
use Rattle.table.specs.Parts.{table_length}
use Rattle.lawful.specs.LawfulValues.{setting_lawful}
use Rattle.lawful.specs.WellFormed.{well_formed}
use Rattle.lawful.proofs.Steps.{Sound}
use Rattle.reader.specs.Pieces.{piece_of}
use Rattle.steps.specs.Step.{Called, gives, refused, step_on}
use Rattle.steps.specs.Run.{put_answer, ran, piece_answered, run_by, piece_call, piece_refused}
use Rattle.steps.proofs.Kept.{piece_keeps}
use Rattle.archive.specs.Call.{step_call, setup_call}
use Rattle.archive.specs.Story.{is_event}

-- ---- setup

module _ (t : List ℕ) (sites partitions : ℕ) where
  pub setup_23 : length t ≢ table_length → setup_call t sites partitions ≡ refused 23 t
  unfolding setup_call
  setup_23 d = rw (ne_eqb (length t) table_length d)

  module _ (long : length t ≡ table_length) where
    pub setup_11 : setting_lawful (record { sites = sites; partitions = partitions }) ≡ false → setup_call t sites partitions ≡ refused 11 t
    unfolding setup_call
    setup_11 l = rw (eq-eqb (length t) table_length long, l)

    pub setup_done : setting_lawful (record { sites = sites; partitions = partitions }) ≡ true → setup_call t sites partitions ≡ gives Done (put 1 (put 1 (replicate (length t) 0) 0 sites) 1 partitions)
    unfolding setup_call fresh
    setup_done l = rw (eq-eqb (length t) table_length long, l, long)

-- ---- step

module _ (t e : List ℕ) where
  pub step_no_table : length t ≢ table_length → step_call t e ≡ refused 23 t
  unfolding step_call
  step_no_table d = rw (ne_eqb (length t) table_length d)

  module _ (long : length t ≡ table_length) where
    pub step_no_event : length e ≢ 32 → step_call t e ≡ refused 23 t
    unfolding step_call
    step_no_event d = rw (eq-eqb (length t) table_length long, ne_eqb (length e) 32 d)

    pub step_ill : length e ≡ 32 → well_formed t ≡ false → step_call t e ≡ refused 24 t
    unfolding step_call
    step_ill l w = rw (eq-eqb (length t) table_length long, eq-eqb (length e) 32 l, w)

    pub step_formed : length e ≡ 32 → well_formed t ≡ true → step_call t e ≡ step_on t e
    unfolding step_call
    step_formed l w = rw (eq-eqb (length t) table_length long, eq-eqb (length e) 32 l, w)

    -- a piece of any length
    piece_ill : well_formed t ≡ false → step_call t e ≡ piece_refused Reason.IllFormed t e
    unfolding step_call piece_refused
    piece_ill w = rw (eq-eqb (length t) table_length long, w) (go (eqb (length e) 32))
      where
        go : (b : Bool) → cond b (refused 24 t) (refused 23 t) ≡ gives (Refused (cond b (plain 24) (plain 23))) t
        go true = refl
        go false = refl

    piece_formed : well_formed t ≡ true → step_call t e ≡ piece_call t e
    unfolding step_call piece_call
    piece_formed w = rw (eq-eqb (length t) table_length long, w)

  piece_no_table : length t ≢ table_length → step_call t e ≡ piece_refused Reason.WrongLength t e
  unfolding piece_refused
  piece_no_table d = step_no_table d ∙ go (eqb (length e) 32)
    where
      go : (b : Bool) → refused 23 t ≡ gives (Refused (cond b (plain 23) (plain 23))) t
      go true = refl
      go false = refl

-- the protocol's answer and changes
abbrev pub stepped : List ℕ → List ℕ → Called
stepped t e = let o = step (decode t) (event_of e) in gives o.says (put_changes o.changes t)

-- what holds of each refusal before the protocol, and of what the protocol gives to an event on a well-formed table, holds of every call
pub call_elim : (t e : List ℕ) (P : Called → Type 0) → P (refused 23 t) → (T (not (well_formed t)) → P (refused 24 t)) → P (refused 10 t) → P (refused 11 t) →
    (T (is_event e) → T (well_formed t) → P (stepped t e)) → P (step_call t e)
unfolding step_call step_on is_event
call_elim t e P no_length ill no_code unused served =
    cond_elim P (eqb (length t) table_length && eqb (length e) 32)
    (λ a. cond_elim P (well_formed t)
    (λ w. cond_elim P (code_lawful e)
    (λ b. cond_elim P (unused_zero e) (λ d. served (yes_and (eqb (length e) 32) (code_lawful e && unused_zero e) (and_yes (eqb (length t) table_length) (eqb (length e) 32) a).1 (yes_and (code_lawful e) (unused_zero e) b d)) w) (λ d. unused))
    (λ b. no_code)) ill) (λ a. no_length)

-- ---- run

-- two calls that agree where P holds, which the second keeps, run alike
same_runs : (f g : (table event : List ℕ) → Called) (P : List ℕ → Type 0) → ((t e : List ℕ) → P t → f t e ≡ g t e) → ((t e : List ℕ) → P t → P (g t e).table) →
    (t es b : List ℕ) → P t → (n : ℕ) → (run_by f n t es b ≡ run_by g n t es b) × P (run_by g n t es b).table
unfolding run_by piece_answered
same_runs f g P same keeps t es b p zero = (refl, p)
same_runs f g P same keeps t es b p (suc n) =
    let r = same_runs f g P same keeps t es b p n in
    let u = run_by g n t es b in
    (ap (λ x. piece_answered f n x.table es x.answers) r.0 ∙ ap (λ c. ran c.table (put_answer u.answers (16 * n) c.answer)) (same u.table (piece_of es n) r.1), keeps u.table (piece_of es n) r.1)

module _ (t es b : List ℕ) (n : ℕ) where
  -- a table that is refused stays as it is
  away_runs : (k : Reason) → ((e : List ℕ) → step_call t e ≡ piece_refused k t e) → run_by step_call n t es b ≡ run_by (piece_refused k) n t es b
  unfolding piece_refused
  away_runs k same = (same_runs step_call (piece_refused k) (λ u. u ≡ t) (λ u e q. rw q (same e)) (λ u e q. q) t es b refl n).0

  pub run_no_table : length t ≢ table_length → run_by step_call n t es b ≡ run_by (piece_refused Reason.WrongLength) n t es b
  run_no_table d = away_runs Reason.WrongLength (λ e. piece_no_table t e d)

  pub run_ill : length t ≡ table_length → well_formed t ≡ false → run_by step_call n t es b ≡ run_by (piece_refused Reason.IllFormed) n t es b
  run_ill l w = away_runs Reason.IllFormed (λ e. piece_ill t e l w)

  pub run_formed : Sound table_length t → run_by step_call n t es b ≡ run_by piece_call n t es b
  run_formed S = (same_runs step_call piece_call (Sound table_length) (λ u e R. piece_formed u e R.size (yes_is (well_formed u) R.formed)) (λ u e R. piece_keeps u e table_length R) t es b S n).0
    where
      yes_is : (c : Bool) → T c → c ≡ true
      yes_is true h = refl
      yes_is false h = absurd h
