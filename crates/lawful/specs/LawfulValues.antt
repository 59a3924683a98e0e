-- What is lawful of the setup's constants (R20), a page (R22) and a session (R21). Times, vectors, records and messages are in crate record.
use Rattle.std.specs.Prelude.{ℕ, Bool, not, ◌||◌, List, [], ◌∷◌, map, leb, ltb, length}
use Rattle.codec.specs.Tests.{every}
use Rattle.protocol.specs.Record.{Setting}
use Rattle.protocol.specs.State.{Mark, Page, Session}
use Rattle.protocol.specs.Needs.{keys_lawful, distinct}
use Rattle.record.specs.Ranges.{vec_lawful}

-- R20
unfoldable pub setting_lawful : Setting → Bool
setting_lawful c = every (ltb 0 c.sites ∷ leb c.sites 4 ∷ ltb 0 c.partitions ∷ leb c.partitions 4 ∷ [])

unfoldable pub keys_of : List Mark → List ℕ
keys_of ms = map (λ m. m.key) ms

-- R21, R22: an open page has 1 to 8 different keys, each 0 to 63
unfoldable pub page_lawful : Setting → Page → Bool
page_lawful c g = every
    (leb (length g.marks) 8
    ∷ (not g.is_open || every (ltb 0 (length g.marks) ∷ keys_lawful (keys_of g.marks) ∷ distinct (keys_of g.marks) ∷ []))
    ∷ vec_lawful c g.vec
    ∷ vec_lawful c g.gathered ∷ [])

-- R21: an open session's site exists
unfoldable pub session_lawful : Setting → Session → Bool
session_lawful c x = every ((not x.is_open || ltb x.site c.sites) ∷ vec_lawful c x.vec ∷ page_lawful c x.page ∷ [])
