-- What is promised of every list of event byte strings, of any length and lawful or not, stepped one by one from `setup`; and of a call that waits.
use Rattle.std.specs.Prelude.{ℕ, ◌+◌, ◌≤◌, ◌<◌, ◌≡◌, ◌≢◌, ◌⊎◌, List, T, length, ℤ}
use Rattle.codec.specs.Le.{Bytes}
use Rattle.codec.specs.Tabulate.{tabulate}
use Rattle.protocol.specs.Record.{Setting}
use Rattle.protocol.specs.Event.{GET, PUT, READ, values_of, number_of}
use Rattle.protocol.specs.declared.Refusal.{Refusal}
use Rattle.protocol.specs.declared.Answer.TheVariants.{Refused}
use Rattle.protocol.specs.State.{setup}
use Rattle.protocol.specs.Step.{after, log}
use Rattle.protocol.specs.Past.{history}
use Rattle.protocol.specs.Causal.{GetCausal, PageCausal}
use Rattle.protocol.specs.Count.{written_at, waiting}
use Rattle.protocol.specs.Waits.{heard_at, clock_at, WaitsFor, SameSession}
use Rattle.event.specs.Event.{event_of}
use Rattle.table.specs.Parts.{table_length}
use Rattle.table.specs.Decode.{setting_in, decode}
use Rattle.lawful.specs.LawfulValues.{setting_lawful}
use Rattle.lawful.specs.WellFormed.{well_formed}
use Rattle.reader.specs.Pieces.{piece_of}
use Rattle.archive.specs.Call.{step_call, setup_call}
use Rattle.archive.specs.Run.{pieces_of, run_call}
use Rattle.archive.specs.Story.{is_event, events_of, table_after, lines_of, delivered_of}

-- the table t, of any bytes, set up for the constants
abbrev pub set_up : Setting → List ℕ → List ℕ
set_up c t = (setup_call t c.sites c.partitions).table

-- of every table of the right length that setup made ready for lawful constants, with any list of byte strings to come
abbrev pub FromSetup : (Setting → (table : List ℕ) → List (List ℕ) → Type 0) → Type 0
FromSetup P = (c : Setting) → T (setting_lawful c) → (t : List ℕ) → length t ≡ table_length → (es : List (List ℕ)) → P c (set_up c t) es

-- DEMAND 1, of any bytes: where `step` or `setup` refuses or waits, no byte of the table changes
abbrev pub UntouchedBytes : Type 0
UntouchedBytes = (t e : List ℕ) (w : Refusal) → (step_call t e).answer ≡ Refused w → (step_call t e).table ≡ t

abbrev pub UntouchedSetup : Type 0
UntouchedSetup = (t : List ℕ) (sites partitions : ℕ) (w : Refusal) → (setup_call t sites partitions).answer ≡ Refused w → (setup_call t sites partitions).table ≡ t

-- DEMAND 2, call after call: the table says the protocol's state, and what `step` answered is what the protocol answers; byte strings that are not events
-- are refused before it and change nothing
abbrev pub Faithful : Type 0
Faithful = FromSetup (λ c t es. (decode (table_after t es) ≡ after (setup c) (events_of es)) × (lines_of t es ≡ log (setup c) (events_of es)))

-- DEMAND 3, of a GET that comes after any event bytes, and of every page as far as it has come
abbrev pub CausalGetBytes : Type 0
CausalGetBytes = FromSetup (λ c t es. (e : List ℕ) (s k : ℕ) → T (is_event e) → event_of e ≡ GET s k →
    GetCausal c (history (lines_of t es)) s k (step_call (table_after t es) e).answer)

abbrev pub CausalPageBytes : Type 0
CausalPageBytes = FromSetup (λ c t es. (s : ℕ) → PageCausal c (history (lines_of t es)) s)

-- CONSERVATION on the channel from site i to site m at partition p: what was written at the sender is what was delivered and what waits
abbrev pub ConservedBytes : Type 0
ConservedBytes = FromSetup (λ c t es. (i m p : ℕ) → i ≢ m → m < c.sites →
    written_at c i p (history (lines_of t es)).writes ≡ delivered_of i m p t es + waiting ((decode (table_after t es)).net.chan i m p))

-- a table that setup and steps have led to is never refused with 24
abbrev pub NeverIll : Type 0
NeverIll = FromSetup (λ c t es. (e : List ℕ) → number_of (step_call (table_after t es) e).answer ≢ 24)

-- A WAIT, of any bytes: a call that waits names a site that exists, and what is short in the table
abbrev pub WaitsBytes : Type 0
WaitsBytes = (t e : List ℕ) → Bytes t → let a = values_of (step_call t e).answer in a.number ≡ 3 →
    (a.source < (setting_in t).sites) × WaitsFor (decode t) (event_of e) a.source a.stamp

-- and goes on waiting while it stays short: u is any well-formed table with the same session and numbers
abbrev pub ReadsGoOnBytes : Type 0
ReadsGoOnBytes = (t u e : List ℕ) → length u ≡ table_length → T (well_formed u) → (s k : ℕ) → (event_of e ≡ GET s k) ⊎ (event_of e ≡ READ s k) → SameSession (decode t) (decode u) s →
    let a = values_of (step_call t e).answer in a.number ≡ 3 → heard_at (decode u) s k a.source < a.stamp → number_of (step_call u e).answer ≡ 3

abbrev pub PutsGoOnBytes : Type 0
PutsGoOnBytes = (t u e : List ℕ) → length u ≡ table_length → T (well_formed u) → (s k q : ℕ) (l : ℤ) → event_of e ≡ PUT s k q l → SameSession (decode t) (decode u) s →
    let a = values_of (step_call t e).answer in a.number ≡ 3 → heard_at (decode t) s k a.source ≤ heard_at (decode u) s k a.source → clock_at (decode u) s k ≤ a.stamp →
    let b = number_of (step_call u e).answer in (b ≡ 3) ⊎ ((b ≡ 21) ⊎ (b ≡ 22))

-- RUN leads to the table that `step` leads to with the pieces one by one; so all of the above is said of it too
abbrev pub RunIsSteps : Type 0
RunIsSteps = (t es b : List ℕ) → (run_call t es b).table ≡ table_after t (tabulate (pieces_of es b) (piece_of es))
