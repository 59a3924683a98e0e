-- Many events at once, by any call for one of them: the pieces that the reader gives, and each answer in 16 bytes.
use Rattle.std.specs.Prelude.{ℕ, zero, suc, ◌*◌, cond, List, [], ◌∷◌, eqb, length}
use Rattle.codec.specs.Level.{bits_of}
use Rattle.codec.specs.Fields.{Field, field, put_all}
use Rattle.protocol.specs.declared.Answer.{Answer}
use Rattle.protocol.specs.declared.Values.{Values}
use Rattle.protocol.specs.declared.Answer.TheVariants.{Refused}
use Rattle.protocol.specs.declared.reasons.Reason.{Reason}
use Rattle.protocol.specs.Event.{plain, values_of}
use Rattle.protocol.specs.Reason.{refusal_for}
use Rattle.reader.specs.Pieces.{piece_of}
use Rattle.steps.specs.Step.{Called, gives, need, step_on}

-- an answer's 16 bytes: 0 number, 1 source, 2 quality, 3 zero, 4–7 level, 8–15 stamp
abbrev pub answer_fields : Values → List Field
answer_fields v =
    field 0 1 v.number ∷ field 1 1 v.source ∷ field 2 1 v.quality ∷ field 3 1 0
    ∷ field 4 4 (bits_of v.level) ∷ field 8 8 v.stamp ∷ []

unfoldable pub put_answer : List ℕ → ℕ → Answer → List ℕ
put_answer b at a = put_all at (answer_fields (values_of a)) b

pub record Ran : Type 0 where
  pub table : List ℕ
  pub answers : List ℕ

abbrev pub ran : (table answers : List ℕ) → Ran
ran t b = record { table = t; answers = b }

-- piece i by the call, and its answer
unfoldable pub piece_answered : ((table event : List ℕ) → Called) → ℕ → (table events answers : List ℕ) → Ran
piece_answered call i t es b = let c = call t (piece_of es i) in ran c.table (put_answer b (16 * i) c.answer)

-- the first n pieces, one after the other
unfoldable pub run_by : ((table event : List ℕ) → Called) → ℕ → (table events answers : List ℕ) → Ran
run_by call zero t es b = ran t b
run_by call (suc n) t es b = let r = run_by call n t es b in piece_answered call n r.table es r.answers

-- a piece on a well-formed table
unfoldable pub piece_call : (table event : List ℕ) → Called
piece_call t e = need (eqb (length e) 32) 23 t (step_on t e)

-- a piece on a table that is refused for the reason
unfoldable pub piece_refused : Reason → (table event : List ℕ) → Called
piece_refused w t e = gives (Refused (cond (eqb (length e) 32) (refusal_for w) (plain 23))) t
