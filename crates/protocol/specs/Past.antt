-- A session's past (R81), worked out from the events and their answers alone: `history` never sees a state.
use Rattle.std.specs.Prelude.{ℕ, Bool, true, false, cond, ◌&&◌, eqb, ℤ}
use mathlib.Core.List.{List, [], ◌∷◌, ◌++◌, flat_map, Memᴰ}
use Rattle.protocol.specs.Record.{Id}
use Rattle.protocol.specs.Event.{Event, OPEN, CLOSE, CLOCK, GET, PUT, BEGIN, READ, END, BEAT, DELIVER, Answer, Done, Stamped, Value, Nothing, Refused, values_of}
use Rattle.protocol.specs.Change.{upd}
use Rattle.protocol.specs.Step.{Line}

infix 15 ◌∈◌
abbrev pub ◌∈◌ {ℓ} : {A : Type ℓ} → A → List A → Type ℓ
a ∈ l = Memᴰ a l

-- an accepted PUT, with the past that its writer had
pub record Write : Type 0 where
  pub id : Id
  pub quality : ℕ
  pub level : ℤ
  pub past : List Id

-- a served READ
pub record Entry : Type 0 where
  pub key : ℕ
  pub says : Answer

-- of a session: its past, and the READs of its page
pub record Story : Type 0 where
  pub past : List Id
  pub page : List Entry

pub record History : Type 0 where
  pub writes : List Write
  pub of : ℕ → Story

-- neither refused nor waiting
unfoldable pub served : Answer → Bool
served Done = true
served (Stamped m t) = true
served (Value v) = true
served Nothing = true
served (Refused w) = false

-- the record that the answer to a read of key k shows
unfoldable pub shown_in : ℕ → Answer → List Id
shown_in k Done = []
shown_in k (Stamped m t) = []
shown_in k (Value v) = record { key = k; source = v.source; stamp = v.stamp } ∷ []
shown_in k Nothing = []
shown_in k (Refused w) = []

unfoldable pub shown_on : List Entry → List Id
shown_on es = flat_map (λ e. shown_in e.key e.says) es

unfoldable pub same_id : Id → Id → Bool
same_id x y = eqb x.key y.key && (eqb x.source y.source && eqb x.stamp y.stamp)

-- R82: the past that the writer of y had at that write
unfoldable pub writer_past : List Write → Id → List Id
writer_past [] y = []
writer_past (w ∷ ws) y = cond (same_id w.id y) (w.past ++ writer_past ws y) (writer_past ws y)

-- records, each with its writer's past
unfoldable pub with_pasts : List Write → List Id → List Id
with_pasts ws ys = flat_map (λ y. y ∷ writer_past ws y) ys

-- ---- one event and its answer

unfoldable pub tell : History → (s : ℕ) → List Id → List Entry → History
tell h s xs es = record { writes = h.writes; of = upd h.of s (record { past = xs; page = es }) }

unfoldable pub wrote : History → (s : ℕ) → Id → (q : ℕ) (l : ℤ) → History
wrote h s y q l = record {
  writes = record { id = y; quality = q; level = l; past = (h.of s).past } ∷ h.writes;
  of = upd h.of s (record { past = y ∷ (h.of s).past; page = (h.of s).page });
}

unfoldable pub note_served : History → Event → Answer → History
note_served h (OPEN s m) a = tell h s [] []
note_served h (CLOSE s) a = tell h s [] []
note_served h (CLOCK m p t) a = h
note_served h (GET s k) a = tell h s (with_pasts h.writes (shown_in k a) ++ (h.of s).past) (h.of s).page
note_served h (PUT s k q l) a = wrote h s (record { key = k; source = (values_of a).source; stamp = (values_of a).stamp }) q l
note_served h (BEGIN s p ks) a = tell h s (h.of s).past []
note_served h (READ s k) a = tell h s (h.of s).past (record { key = k; says = a } ∷ (h.of s).page)
note_served h (END s) a = tell h s (with_pasts h.writes (shown_on (h.of s).page) ++ (h.of s).past) []
note_served h (BEAT m p) a = h
note_served h (DELIVER i m p) a = h

-- a refused or waiting event leaves every past as it was
unfoldable pub note : History → Event → Answer → History
note h e a = cond (served a) (note_served h e a) h

-- ---- many

unfoldable pub start : History
start = record { writes = []; of = λ s. record { past = []; page = [] } }

unfoldable pub retell : History → List Line → History
retell h [] = h
retell h (l ∷ ls) = retell (note h l.event l.says) ls

unfoldable pub history : List Line → History
history ls = retell start ls
