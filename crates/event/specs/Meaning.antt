-- An event as the code holds it. In order: the values of the bytes' fields, of whatever code; the event that such values say; the code's events as the
-- protocol's, and which of them the fields say; and why an event's bytes are refused. That the event of the fields is that of the bytes is proved in proofs/Meaning.
use Rattle.std.specs.Prelude.{ℕ, ◌+◌, ◌-◌, ◌≡◌, Bool, true, false, ◌&&◌, List, [], ◌∷◌, ltb, get_or, MatchResult}
use Rattle.std.specs.declared.result.Result.{Result}
use Rattle.codec.specs.Le.{load}
use Rattle.codec.specs.Level.{level_from}
use Rattle.codec.specs.Tabulate.{tabulate}
use Rattle.protocol.specs.Event.{Event, OPEN, CLOSE, CLOCK, GET, PUT, BEGIN, READ, END, BEAT, DELIVER}
use Rattle.protocol.specs.declared.reasons.Reason.{Reason}
use Rattle.event.specs.declared.Event as Code
use Rattle.event.specs.declared.Fields.{Fields}

unfoldable pub fields_in : List ℕ → Fields
fields_in e = record {
  code = load 1 e 0;
  site = load 1 e 1;
  partition = load 1 e 2;
  session = load 1 e 3;
  key = load 1 e 4;
  quality = load 1 e 5;
  from = load 1 e 6;
  count = load 1 e 7;
  time = load 8 e 8;
  level = level_from (load 4 e 16);
  keys = tabulate 8 (λ i. load 1 e (20 + i));
}

-- as many keys as the count says
unfoldable pub keys_from : Fields → List ℕ
keys_from x = tabulate x.count (λ i. get_or x.keys i 0)

-- the events of the codes 1 to 10
abbrev pub events_from : Fields → List Event
events_from x =
    OPEN x.session x.site
    ∷ CLOSE x.session
    ∷ CLOCK x.site x.partition x.time
    ∷ GET x.session x.key
    ∷ PUT x.session x.key x.quality x.level
    ∷ BEGIN x.session x.partition (keys_from x)
    ∷ READ x.session x.key
    ∷ END x.session
    ∷ BEAT x.site x.partition
    ∷ DELIVER x.from x.site x.partition
    ∷ []

-- the event of the code n, and that of the code that x has
abbrev pub event_for : Fields → ℕ → Event
event_for x n = get_or (events_from x) (n - 1) (CLOSE x.session)

unfoldable pub event_from : Fields → Event
event_from x = event_for x x.code

-- ---- the code's events

abbrev pub as_event : Code.Event → Event
as_event (Code.Event.Open s m) = OPEN s m
as_event (Code.Event.Close s) = CLOSE s
as_event (Code.Event.Clock m p t) = CLOCK m p t
as_event (Code.Event.Get s k) = GET s k
as_event (Code.Event.Put s k q l) = PUT s k q l
as_event (Code.Event.Begin s p n keys) = BEGIN s p (tabulate n (λ i. get_or keys i 0))
as_event (Code.Event.Read s k) = READ s k
as_event (Code.Event.End s) = END s
as_event (Code.Event.Beat m p) = BEAT m p
as_event (Code.Event.Deliver i m p) = DELIVER i m p

-- a code that is 1 to 10
abbrev pub known : Fields → Bool
known x = ltb 0 x.code && ltb x.code 11

-- which event fields say, or that they say none
abbrev pub Says : Fields → Result Code.Event Reason → Type 0
Says x r = MatchResult r (λ v. (known x ≡ true) × (as_event v ≡ event_from x)) (λ w. (known x ≡ false) × (w ≡ Reason.UnknownCode))

-- ---- refusals 10 and 11, by the test of the code and that of the fields

pub data IsRefusal (code fields : Bool) : Reason → Type 0 where
  unknown : code ≡ false → IsRefusal code fields Reason.UnknownCode
  unlawful : code ≡ true → fields ≡ false → IsRefusal code fields Reason.UnlawfulField
