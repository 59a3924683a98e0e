-- What is promised: of every list of events on a fresh setup, and of every step. Each proof reads `pub name : Name`.
use Rattle.std.specs.Prelude.{ℕ, ◌+◌, ◌≤◌, ◌<◌, ◌≡◌, ◌≢◌, List, T, length}
use Rattle.vector.specs.Vec.{width}
use Rattle.protocol.specs.Record.{Setting}
use Rattle.protocol.specs.State.{Net, State, setup}
use Rattle.protocol.specs.Event.{Event, GET, Refusal, Refused}
use Rattle.protocol.specs.View.{Place, of_session, at_site, on_channel, place}
use Rattle.protocol.specs.Step.{step, next, after, log}
use Rattle.protocol.specs.Past.{history}
use Rattle.protocol.specs.Causal.{GetCausal, PageCausal}
use Rattle.protocol.specs.Count.{waiting, written_at, delivered}

-- DEMAND 3, after any events: of a GET that comes next, and of every page as far as it has come
abbrev pub CausalGet : Type 0
CausalGet = (c : Setting) → c.sites ≤ width → (es : List Event) (s k : ℕ) →
    GetCausal c (history (log (setup c) es)) s k (step (after (setup c) es) (GET s k)).says

abbrev pub CausalPage : Type 0
CausalPage = (c : Setting) → c.sites ≤ width → (es : List Event) (s : ℕ) → PageCausal c (history (log (setup c) es)) s

-- CONSERVATION on the channel from site i to site m at partition p: what the events wrote at the sender is what was delivered and what waits
abbrev pub Conserved : Type 0
Conserved = (c : Setting) (es : List Event) (i m p : ℕ) → i ≢ m → m < c.sites →
    written_at c i p (history (log (setup c) es)).writes ≡ delivered i m p (setup c) es + waiting ((after (setup c) es).net.chan i m p)

-- INFLUENCE. p is one of the partitions. Every setup has one at least; were there none, a key k would be at k mod 0, which is k, and any number would do
abbrev pub IsPartition : Setting → ℕ → Type 0
IsPartition c p = 0 < c.partitions → p < c.partitions

-- two networks are alike in the constants, the nodes of site m, and how full their channels to the sites are
pub record SiteAlike (N M : Net) (m : ℕ) : Type 0 where
  pub setting : N.setting ≡ M.setting
  pub clock : (p : ℕ) → IsPartition N.setting p → N.clock m p ≡ M.clock m p
  pub heard : (p i : ℕ) → IsPartition N.setting p → N.heard m p i ≡ M.heard m p i
  pub store : (p : ℕ) → IsPartition N.setting p → N.store m p ≡ M.store m p
  pub sent : (p j : ℕ) → IsPartition N.setting p → j < N.setting.sites → length (N.chan m j p) ≡ length (M.chan m j p)

-- an event of a session that is not open sees the session and the constants alone
unfoldable pub Alike : State → State → Place → Type 0
Alike S R (of_session s) =
    (S.session s ≡ R.session s) × (S.net.setting ≡ R.net.setting) × (T (S.session s).is_open → SiteAlike S.net R.net (S.session s).site)
Alike S R (at_site m) = SiteAlike S.net R.net m
Alike S R (on_channel i m p) = SiteAlike S.net R.net m × (S.net.chan i m p ≡ R.net.chan i m p)

-- the answer and the changes are then the same
abbrev pub Influenced : Type 0
Influenced = (S R : State) (e : Event) → Alike S R (place e) → step S e ≡ step R e

-- a refusal and a wait change nothing
abbrev pub Untouched : Type 0
Untouched = (S : State) (e : Event) (w : Refusal) → (step S e).says ≡ Refused w → next S e ≡ S
