-- When a page's marks and a session fit their bytes.
use Rattle.std.specs.Prelude.{◌≤◌, ◌<◌, List, [], ◌∷◌, length}
use Rattle.protocol.specs.State.{Mark, Session}
use Rattle.record.specs.Fits.{FitsVec}

abbrev pub FitsMarks : List Mark → Type 0
FitsMarks [] = Unit {0}
FitsMarks (m ∷ ms) = (m.key < 256) × FitsMarks ms

pub record FitsSession (x : Session) : Type 0 where
  pub site : x.site < 256
  pub vec : FitsVec x.vec
  pub page : FitsVec x.page.vec
  pub gathered : FitsVec x.page.gathered
  pub count : length x.page.marks ≤ 8
  pub marks : FitsMarks x.page.marks
