-- What must hold of a change so that the bytes say what it makes of the state: its numbers fit their bytes, its places are there, and there is room.
-- All of it follows from a well-formed table and an event that is served.
use Rattle.std.specs.Prelude.{ℕ, ◌-◌, ◌≤◌, ◌<◌, ◌≡◌, List, [], ◌∷◌}
use Rattle.codec.specs.Le.{load, span, Bytes}
use Rattle.protocol.specs.Record.{Msg, Update, Heartbeat}
use Rattle.protocol.specs.Change.{Change, SetSession, SetClock, Publish, Receive}
use Rattle.record.specs.Fits.{FitsMsg}
use Rattle.parts.specs.Channel.{wait_in}
use Rattle.parts.specs.Room.{Room}
use Rattle.parts.specs.Fits.{FitsSession}
use Rattle.search.specs.Kept.{places_in}
use Rattle.table.specs.Parts.{Whole, place_of, site_of, node_of, channel_of, kept_of}
use Rattle.table.specs.Decode.{setting_in}
use Rattle.table.specs.Put.{put_change}

-- "keys 0 to 63"
abbrev pub Keyed : Msg → Type 0
Keyed (Update r) = r.id.key < 64
Keyed (Heartbeat t) = Unit {0}

-- the kept places of node (m, p) are what the search finds
abbrev pub KeptAt : (m p : ℕ) → List ℕ → Type 0
KeptAt m p t = kept_of t m p ≡ places_in (setting_in t) (node_of (site_of t m) p)

pub record FitsPublish (m p : ℕ) (x : Msg) (t : List ℕ) : Type 0 where
  pub site : m < load 1 t 0
  pub sites : load 1 t 0 ≤ 4
  pub partition : p < 4
  pub msg : FitsMsg x
  pub room : Room x (node_of (site_of t m) p)
  pub ways : (d : ℕ) → d < load 1 t 0 - 1 → wait_in (channel_of (site_of t m) p d) < 8
  pub key : Keyed x
  pub whole : Whole t
  pub kept : KeptAt m p t

pub record FitsReceive (i m p : ℕ) (x : Msg) (t : List ℕ) : Type 0 where
  pub source : i < 4
  pub site : m < 4
  pub other : i ≡ m → ⊥
  pub partition : p < 4
  pub msg : FitsMsg x
  pub room : Room x (node_of (site_of t m) p)
  pub waits : 0 < wait_in (channel_of (site_of t i) p (place_of i m))
  pub bytes : Bytes t
  pub key : Keyed x
  pub whole : Whole t
  pub kept : KeptAt m p t

abbrev pub Fits : Change → List ℕ → Type 0
Fits (SetSession s x) t = (s < 16) × FitsSession x
Fits (SetClock m p c) t = (m < 4) × (p < 4) × (c < span 8)
Fits (Publish m p x) t = FitsPublish m p x t
Fits (Receive i m p x) t = FitsReceive i m p x t

-- each change fits the table that those before it leave
abbrev pub FitsAll : List Change → List ℕ → Type 0
FitsAll [] t = Unit {0}
FitsAll (c ∷ cs) t = Fits c t × FitsAll cs (put_change c t)
