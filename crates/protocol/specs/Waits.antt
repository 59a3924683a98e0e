-- What is promised of a wait (R75), in any state: the site that it names is short of the stamp that it names, no lower one of those waited for is, and while
-- that site stays short the same event goes on waiting. Only GET, READ and PUT wait.
use Rattle.std.specs.Prelude.{ℕ, ◌≤◌, ◌<◌, max, ◌≡◌, ◌≢◌, ◌⊎◌, ℤ}
use Rattle.vector.specs.Vec.{Vec, width, largest}
use Rattle.protocol.specs.Record.{partition_of}
use Rattle.protocol.specs.State.{State}
use Rattle.protocol.specs.Event.{Event, OPEN, CLOSE, CLOCK, GET, PUT, BEGIN, READ, END, BEAT, DELIVER, values_of, number_of}
use Rattle.protocol.specs.Step.{step}

-- of the node of key k at the site of session s: what it has heard, and its clock
abbrev pub heard_at : State → (s k : ℕ) → Vec
heard_at S s k = S.net.heard (S.session s).site (partition_of S.net.setting k)

abbrev pub clock_at : State → (s k : ℕ) → ℕ
clock_at S s k = S.net.clock (S.session s).site (partition_of S.net.setting k)

-- ---- what is named

-- the node has not heard site i up to t, the stamp that v needs; of the sites waited for none lower is short
pub record ShortOf (v node : Vec) (waited_for : ℕ → Type 0) (i t : ℕ) : Type 0 where
  pub site : i < width
  pub waited : waited_for i
  pub stamp : t ≡ v i
  pub short : node i < t
  pub lowest : (j : ℕ) → j < i → waited_for j → v j ≤ node j

-- the clock of the session's site i has not passed t, the larger of the session's largest entry and the node's own entry
pub record ShortClock (S : State) (s k i t : ℕ) : Type 0 where
  pub site : i ≡ (S.session s).site
  pub stamp : t ≡ max (largest (S.session s).vec) (heard_at S s k i)
  pub short : clock_at S s k ≤ t

-- a GET waits for the other sites, a READ for all, a PUT for the clock; no other event waits
unfoldable pub WaitsFor : State → Event → (i t : ℕ) → Type 0
WaitsFor S (OPEN s m) i t = ⊥
WaitsFor S (CLOSE s) i t = ⊥
WaitsFor S (CLOCK m p u) i t = ⊥
WaitsFor S (GET s k) i t = ShortOf (S.session s).vec (heard_at S s k) (λ j. j ≢ (S.session s).site) i t
WaitsFor S (PUT s k q l) i t = ShortClock S s k i t
WaitsFor S (BEGIN s p ks) i t = ⊥
WaitsFor S (READ s k) i t = ShortOf (S.session s).page.vec (heard_at S s k) (λ j. Unit {0}) i t
WaitsFor S (END s) i t = ⊥
WaitsFor S (BEAT m p) i t = ⊥
WaitsFor S (DELIVER j m p) i t = ⊥

abbrev pub Waits : Type 0
Waits = (S : State) (e : Event) → let a = values_of (step S e).says in a.number ≡ 3 → WaitsFor S e a.source a.stamp

-- ---- while it stays short: R is any state in which session and setup are as in S

pub record SameSession (S R : State) (s : ℕ) : Type 0 where
  pub setting : R.net.setting ≡ S.net.setting
  pub session : R.session s ≡ S.session s

abbrev pub ReadsGoOn : Type 0
ReadsGoOn = (S R : State) (s k : ℕ) (e : Event) → (e ≡ GET s k) ⊎ (e ≡ READ s k) → SameSession S R s →
    let a = values_of (step S e).says in a.number ≡ 3 → heard_at R s k a.source < a.stamp → number_of (step R e).says ≡ 3

-- a PUT may find no room instead (22, 21), which is looked for before the clock; the node's own entry has not fallen
abbrev pub PutsGoOn : Type 0
PutsGoOn = (S R : State) (s k q : ℕ) (l : ℤ) → SameSession S R s →
    let a = values_of (step S (PUT s k q l)).says in a.number ≡ 3 → heard_at S s k a.source ≤ heard_at R s k a.source → clock_at R s k ≤ a.stamp →
    let b = number_of (step R (PUT s k q l)).says in (b ≡ 3) ⊎ ((b ≡ 21) ⊎ (b ≡ 22))
