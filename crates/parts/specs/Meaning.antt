-- The session that the code holds, as the protocol's.
use Rattle.vector.specs.Meaning.{as_vec}
use Rattle.protocol.specs.State as State
use Rattle.parts.specs.declared.Session.{Session}
use Rattle.parts.specs.Pages.{marks_on}

abbrev pub as_session : Session → State.Session
as_session x = record {
  is_open = x.open;
  site = x.site;
  vec = as_vec x.vec;
  page = record {
    is_open = x.paged;
    vec = as_vec x.snapshot;
    marks = marks_on x.marks;
    gathered = as_vec x.gathered;
  };
}
