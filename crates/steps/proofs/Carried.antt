-- What carrying a decision out asks, from what fits: how many marks a session has.
use Prim.Native.Nat.{◌≤◌}
use native.Mathlib.Omega.{arith}
use Rattle.codec.proofs.Tabulate.{tab_length}
use Rattle.parts.specs.Fits.{FitsSession}
use Rattle.parts.specs.Meaning.{as_session}
use Rattle.parts.specs.Pages.{mark_of}
use Rattle.parts.specs.declared.Session.{Session}

pub marks_few : (x : Session) → FitsSession (as_session x) → x.marks.page.count ≤ 8
marks_few x fits = omega (arith, fits.count, tab_length x.marks.page.count (mark_of x.marks))
