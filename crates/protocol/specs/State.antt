-- What the archive holds: sessions, nodes and channels; and what a fresh setup holds.
use Rattle.std.specs.Prelude.{ℕ, Bool, true, false, List, []}
use Rattle.vector.specs.Vec.{Vec, zeros}
use Rattle.protocol.specs.Record.{Setting, Rec, Msg}

-- a key of a page, and whether it was read
pub record Mark : Type 0 where
  pub key : ℕ
  pub read : Bool

-- R14: gathered is what END will raise the session's vector by
pub record Page : Type 0 where
  pub is_open : Bool
  pub vec : Vec
  pub marks : List Mark
  pub gathered : Vec

pub record Session : Type 0 where
  pub is_open : Bool
  pub site : ℕ
  pub vec : Vec
  pub page : Page

-- R12, R13. Of the node of site m and partition p: clock m p, heard m p (the stamp up to which it has heard each site) and store m p (its records, first
-- stored first). chan i m p: the messages from site i to site m at partition p, front first.
pub record Net : Type 0 where
  pub setting : Setting
  pub clock : ℕ → ℕ → ℕ
  pub heard : ℕ → ℕ → Vec
  pub store : ℕ → ℕ → List Rec
  pub chan : ℕ → ℕ → ℕ → List Msg

pub record State : Type 0 where
  pub net : Net
  pub session : ℕ → Session

unfoldable pub no_page : Page
no_page = record { is_open = false; vec = zeros; marks = []; gathered = zeros }

unfoldable pub closed : Session
closed = record { is_open = false; site = 0; vec = zeros; page = no_page }

-- a session of site m as it is opened
unfoldable pub opened : (m : ℕ) → Session
opened m = record { is_open = true; site = m; vec = zeros; page = no_page }

-- x with another vector, and with another page
abbrev pub with_vec : Session → Vec → Session
with_vec x v = record { is_open = x.is_open; site = x.site; vec = v; page = x.page }

abbrev pub with_page : Session → Page → Session
with_page x g = record { is_open = x.is_open; site = x.site; vec = x.vec; page = g }

-- R18
unfoldable pub setup : Setting → State
setup c = record {
  net = record { setting = c; clock = λ m p. 0; heard = λ m p. zeros; store = λ m p. []; chan = λ i m p. [] };
  session = λ s. closed;
}
