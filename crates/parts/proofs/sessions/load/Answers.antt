-- `parts::sessions::load` meets its contract: each field is what its load ensures.
use Rattle.parts.specs.Session.{session_in}
use Rattle.parts.proofs.sessions.load.Goals as goal

pub returns : goal.returns
unfolding session_in
returns c =
    rw (c.load_vector-gathered.ensures, c.load_vector-snapshot.ensures, c.load_vector-vec.ensures, c.load_marks-marks.ensures, c.load-paged.ensures, c.load-site.ensures, c.load-open.ensures)
