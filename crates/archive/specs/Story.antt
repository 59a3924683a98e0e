-- Call after call of `step`: the table that a list of event byte strings leads to, and each event that reaches the protocol with the answer that
-- `step` gave. The past is worked out from these lines alone.
use Rattle.std.specs.Prelude.{ℕ, ◌+◌, Bool, cond, ◌&&◌, List, [], ◌∷◌, eqb, length}
use Rattle.protocol.specs.Event.{Event}
use Rattle.protocol.specs.View.{place}
use Rattle.protocol.specs.Step.{Line}
use Rattle.protocol.specs.Past.{served}
use Rattle.protocol.specs.Count.{taken_at}
use Rattle.event.specs.Event.{code_lawful, event_of}
use Rattle.event.specs.Fields.{unused_zero}
use Rattle.table.specs.Decode.{decode}
use Rattle.archive.specs.Call.{step_call}

-- the bytes are an event: neither 23, 10 nor an unused field's 11
unfoldable pub is_event : List ℕ → Bool
is_event e = eqb (length e) 32 && (code_lawful e && unused_zero e)

-- the protocol's events among byte strings
unfoldable pub events_of : List (List ℕ) → List Event
events_of [] = []
events_of (e ∷ es) = cond (is_event e) (event_of e ∷ events_of es) (events_of es)

unfoldable pub table_after : List ℕ → List (List ℕ) → List ℕ
table_after t [] = t
table_after t (e ∷ es) = table_after (step_call t e).table es

unfoldable pub lines_of : List ℕ → List (List ℕ) → List Line
lines_of t [] = []
lines_of t (e ∷ es) =
    let c = step_call t e in
    let rest = lines_of c.table es in
    cond (is_event e) (record { event = event_of e; says = c.answer } ∷ rest) rest

-- how many of the calls delivered an update from site i to node (m, p)
unfoldable pub delivered_of : (i m p : ℕ) → List ℕ → List (List ℕ) → ℕ
delivered_of i m p t [] = 0
delivered_of i m p t (e ∷ es) =
    let c = step_call t e in
    cond (is_event e && (served c.answer && taken_at i m p (decode t).net (place (event_of e)))) 1 0 + delivered_of i m p c.table es
