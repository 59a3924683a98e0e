-- What the protocol decides of an event whose fields are in range.
use Rattle.protocol.specs.State.{State}
use Rattle.protocol.specs.Event.{Event}
use Rattle.protocol.specs.View.{view}
use Rattle.protocol.specs.Serve.{Outcome}
use Rattle.protocol.specs.Step.{judged}

-- what the protocol decides of an event whose fields are in range
unfoldable pub answered : State → Event → Outcome
answered S e = judged (view S e) e
