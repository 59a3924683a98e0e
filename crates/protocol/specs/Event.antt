-- Events and answers, and the five values of each answer.
use Rattle.std.specs.Prelude.{ℕ, List, ℤ, pos}
use Rattle.std.proofs.Math.Option.{Option, some, none}
use Rattle.protocol.specs.Record.{Rec}
pub use Rattle.protocol.specs.declared.Refusal.{Refusal}
pub use Rattle.protocol.specs.declared.Reading.{Reading}
pub use Rattle.protocol.specs.declared.Answer.{Answer}
pub use Rattle.protocol.specs.declared.Values.{Values}
pub use Rattle.protocol.specs.declared.Answer.TheVariants.{Done, Stamped, Value, Nothing, Refused}

-- s session, m site, p partition, t time, k key, q quality, l level, ks page keys, i from
pub data Event : Type 0 where
  OPEN : (s m : ℕ) → Event
  CLOSE : (s : ℕ) → Event
  CLOCK : (m p t : ℕ) → Event
  GET : (s k : ℕ) → Event
  PUT : (s k q : ℕ) (l : ℤ) → Event
  BEGIN : (s p : ℕ) (ks : List ℕ) → Event
  READ : (s k : ℕ) → Event
  END : (s : ℕ) → Event
  BEAT : (m p : ℕ) → Event
  DELIVER : (i m p : ℕ) → Event

-- a refusal with zeros after its number (R34)
unfoldable pub plain : ℕ → Refusal
plain n = record { number = n; source = 0; stamp = 0 }

-- a wait, for this site and this stamp (R51)
abbrev pub wait_for : (site stamp : ℕ) → Refusal
wait_for m t = record { number = 3; source = m; stamp = t }

unfoldable pub shown : Option Rec → Answer
shown none = Nothing
shown (some r) = Value (record { source = r.id.source; quality = r.quality; level = r.level; stamp = r.id.stamp })

-- ---- R34: an answer as number, source, quality, level and stamp

abbrev pub five : (number source quality : ℕ) (level : ℤ) (stamp : ℕ) → Values
five n m q l t = record { number = n; source = m; quality = q; level = l; stamp = t }

abbrev pub values_of : Answer → Values
values_of Done = five 0 0 0 (pos 0) 0
values_of (Stamped m t) = five 0 m 0 (pos 0) t
values_of (Value v) = five 1 v.source v.quality v.level v.stamp
values_of Nothing = five 2 0 0 (pos 0) 0
values_of (Refused w) = five w.number w.source 0 (pos 0) w.stamp

abbrev pub number_of : Answer → ℕ
number_of a = (values_of a).number
