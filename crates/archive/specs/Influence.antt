-- What may influence a step, on bytes: when two tables agree on all that an event may look at (R73), and what is then the same.
use Rattle.std.specs.Prelude.{ℕ, ◌+◌, ◌-◌, ◌%◌, ◌<◌, ◌≡◌, ◌⊎◌, List, T, length, get_or}
use Rattle.codec.specs.Le.{Bytes}
use Rattle.protocol.specs.View.{Place, of_session, at_site, on_channel, place}
use Rattle.protocol.specs.Promises.{Alike}
use Rattle.event.specs.Event.{event_of}
use Rattle.parts.specs.Channel.{front_in, wait_in}
use Rattle.table.specs.Parts.{table_length, place_of, site_of, channel_of}
use Rattle.table.specs.Decode.{setting_in, decode}
use Rattle.lawful.specs.WellFormed.{well_formed}
use Rattle.steps.specs.Step.{Called}
use Rattle.archive.specs.Call.{step_call}
use Rattle.archive.specs.Story.{is_event}

-- where the next message goes, in each channel of site m to another site
unfoldable pub NextAlike : List ℕ → List ℕ → (m : ℕ) → Type 0
NextAlike t u m = (p d : ℕ) → p < (setting_in t).partitions → d < (setting_in t).sites - 1 →
    (front_in (channel_of (site_of t m) p d) + wait_in (channel_of (site_of t m) p d)) % 8 ≡ (front_in (channel_of (site_of u m) p d) + wait_in (channel_of (site_of u m) p d)) % 8

-- where a message that the event sends goes, and where the one that it delivers is
unfoldable pub RingsAlike : (t u : List ℕ) → Place → Type 0
RingsAlike t u (of_session s) = T ((decode t).session s).is_open → NextAlike t u ((decode t).session s).site
RingsAlike t u (at_site m) = NextAlike t u m
RingsAlike t u (on_channel i m p) = front_in (channel_of (site_of t i) p (place_of i m)) % 8 ≡ front_in (channel_of (site_of u i) p (place_of i m)) % 8

-- the tables agree on what an event may look at
abbrev pub AgreeOn : (t u : List ℕ) → Place → Type 0
AgreeOn t u w = Alike (decode t) (decode u) w × RingsAlike t u w

-- at every place either both are as they were, or both got the same byte
unfoldable pub SameWrites : (t t' u u' : List ℕ) → Type 0
SameWrites t t' u u' = (j : ℕ) → ((get_or t' j 0 ≡ get_or t j 0) × (get_or u' j 0 ≡ get_or u j 0)) ⊎ (get_or t' j 0 ≡ get_or u' j 0)

pub record SameStep (t u : List ℕ) (c d : Called) : Type 0 where
  pub answer : c.answer ≡ d.answer
  pub bytes : SameWrites t c.table u d.table

-- of well-formed tables with equal numbers of sites and partitions; byte strings that are not events are refused without looking at the table
abbrev pub InfluencedBytes : Type 0
InfluencedBytes = (t u e : List ℕ) → length t ≡ table_length → length u ≡ table_length → Bytes t → Bytes u → T (well_formed t) → T (well_formed u) →
    setting_in t ≡ setting_in u → (T (is_event e) → AgreeOn t u (place (event_of e))) → SameStep t u (step_call t e) (step_call u e)
