-- A call's answer and the table's bytes afterwards, and a step on a well-formed table: refusal 10, refusal 11 for an unused field that is not zero, then the
-- protocol's answer.
use Rattle.std.specs.Prelude.{ℕ, Bool, cond, ◌&&◌, List}
use Rattle.std.specs.declared.result.Result.{Result}
use Rattle.std.specs.declared.result.Result.TheVariants.{Ok, Err}
use Rattle.protocol.specs.declared.Answer.{Answer}
use Rattle.protocol.specs.declared.Answer.TheVariants.{Refused}
use Rattle.protocol.specs.Event.{plain}
use Rattle.protocol.specs.Needs.{ranges}
use Rattle.protocol.specs.Step.{step}
use Rattle.protocol.specs.declared.reasons.Reason.{Reason}
use Rattle.protocol.specs.Reason.{refusal_for}
use Rattle.event.specs.Event.{code_lawful, event_of, met}
use Rattle.event.specs.Fields.{unused_zero}
use Rattle.table.specs.Decode.{setting_in, decode}
use Rattle.table.specs.Put.{put_changes}

pub record Called : Type 0 where
  pub answer : Answer
  pub table : List ℕ

abbrev pub gives : Answer → List ℕ → Called
gives a t = record { answer = a; table = t }

-- refused with the number, and no byte changes
abbrev pub refused : ℕ → List ℕ → Called
refused n t = gives (Refused (plain n)) t

-- the test holds, or the call is refused with the number
abbrev pub need : Bool → ℕ → List ℕ → Called → Called
need b n t r = cond b r (refused n t)

-- what the test of an event's fields says, by the table's own numbers
abbrev pub fields_test : (table event : List ℕ) → Bool
fields_test t e = unused_zero e && met (ranges (setting_in t) (event_of e))

-- an event of 32 bytes on a well-formed table
unfoldable pub step_on : (table event : List ℕ) → Called
step_on t e =
    let o = step (decode t) (event_of e) in
    need (code_lawful e) 10 t (need (unused_zero e) 11 t (gives o.says (put_changes o.changes t)))

-- what is answered where a reason may turn the call away
abbrev pub told : Result Answer Reason → Answer
told (Ok a) = a
told (Err w) = Refused (refusal_for w)
