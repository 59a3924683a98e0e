-- Demand 3: what every served read keeps to, in terms of the past alone (R83 to R85).
use Rattle.std.specs.Prelude.{ℕ, ◌≡◌, not, List, T}
use Rattle.protocol.specs.Record.{Setting, Id, newer}
use Rattle.protocol.specs.Event.{Answer, values_of}
use Rattle.protocol.specs.Past.{◌∈◌, Write, Entry, History, served, shown_in, writer_past}

-- y is no older than x
unfoldable pub NoOlder : Setting → Id → Id → Type 0
NoOlder c y x = T (not (newer c x y))

-- the answer to a read of key k shows a record no older than x
unfoldable pub Covers : Setting → ℕ → Answer → Id → Type 0
Covers c k a x = (y : Id) × (y ∈ shown_in k a) × NoOlder c y x

-- and no older than any record of the key among xs: so it shows nothing only if there is none
unfoldable pub CoversAll : Setting → ℕ → Answer → List Id → Type 0
CoversAll c k a xs = (x : Id) → x ∈ xs → x.key ≡ k → Covers c k a x

-- R83: what the answer shows was written, with that quality and level
unfoldable pub Genuine : List Write → ℕ → Answer → Type 0
Genuine ws k a = (y : Id) → y ∈ shown_in k a → (w : Write) × (w ∈ ws) × (w.id ≡ y) × (w.quality ≡ (values_of a).quality) × (w.level ≡ (values_of a).level)

-- a GET of key k by session s, answered a after what h tells
pub record GetCausal (c : Setting) (h : History) (s k : ℕ) (a : Answer) : Type 0 where
  pub genuine : Genuine h.writes k a
  pub covers : T (served a) → CoversAll c k a (h.of s).past

-- the READs of the page of session s as far as it has come: each against the reader's past, and against the past of every record on the page,
-- whether that was read before it or after it
pub record PageCausal (c : Setting) (h : History) (s : ℕ) : Type 0 where
  pub genuine : (e : Entry) → e ∈ (h.of s).page → Genuine h.writes e.key e.says
  pub covers : (e : Entry) → e ∈ (h.of s).page → CoversAll c e.key e.says (h.of s).past
  pub together : (e d : Entry) → e ∈ (h.of s).page → d ∈ (h.of s).page → (y : Id) → y ∈ shown_in d.key d.says →
      CoversAll c e.key e.says (writer_past h.writes y)
