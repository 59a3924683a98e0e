-- What is known of an open session that was read from a well-formed table.
use Rattle.std.specs.Prelude.{ℕ, ◌≡◌, ◌<◌, ◌≤◌, true, List}
use Rattle.codec.specs.Le.{load}
use Rattle.parts.specs.Session.{session_in}
use Rattle.parts.specs.Meaning.{as_session}
use Rattle.parts.specs.declared.Session.{Session}
use Rattle.table.specs.Parts.{session_of}

pub record Opened (t : List ℕ) (s : ℕ) (x : Session) : Type 0 where
  pub says : as_session x ≡ session_in (session_of t s)
  pub is_open : x.open ≡ true
  pub few : x.marks.page.count ≤ 8
  pub site : x.site < 4
  pub there : x.site < load 1 t 0
