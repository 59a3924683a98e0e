-- `parts::sessions::store` meets its contract: the head, the vectors and the marks are stored, the last first.
use mathlib.Core.Path.{◌∙◌}
use Rattle.parts.specs.Session.{put_session}
use Rattle.parts.proofs.sessions.store.Goals as goal

pub returns : goal.returns
unfolding put_session
returns c =
    c.store_marks.ensures
    ∙ rw (c.store_vector-3.ensures, c.store_vector-2.ensures, c.store_vector.ensures, c.store_head.ensures)
