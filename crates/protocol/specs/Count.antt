-- What is conserved (R74): the updates of a channel, counted over what was written and over the events that took one off.
use Rattle.std.specs.Prelude.{ℕ, ◌+◌, Bool, false, cond, ◌&&◌, eqb, length}
use mathlib.Core.List.{List, [], ◌∷◌, flat_map}
use Rattle.protocol.specs.Record.{Setting, partition_of, Msg, records_in}
use Rattle.protocol.specs.State.{Net, State}
use Rattle.protocol.specs.Event.{Event}
use Rattle.protocol.specs.View.{Place, of_session, at_site, on_channel, place}
use Rattle.protocol.specs.Needs.{front_updates}
use Rattle.protocol.specs.Change.{at}
use Rattle.protocol.specs.Step.{step, next}
use Rattle.protocol.specs.Past.{Write, served}

-- how many updates wait in a channel
unfoldable pub waiting : List Msg → ℕ
waiting l = length (flat_map records_in l)

-- how many of the writes were made at node (i, p)
unfoldable pub written_at : Setting → (i p : ℕ) → List Write → ℕ
written_at c i p [] = 0
written_at c i p (w ∷ ws) = cond (at w.id.source (partition_of c w.id.key) i p) 1 0 + written_at c i p ws

-- a DELIVER of an update from site i to node (m, p): no other event is on a channel
unfoldable pub taken_at : (i m p : ℕ) → Net → Place → Bool
taken_at i m p N (of_session s) = false
taken_at i m p N (at_site j) = false
taken_at i m p N (on_channel h j q) = (at j q m p && eqb i h) && front_updates (N.chan h j q)

-- how many of the events were served and did that
unfoldable pub delivered : (i m p : ℕ) → State → List Event → ℕ
delivered i m p S [] = 0
delivered i m p S (e ∷ es) = cond (served (step S e).says && taken_at i m p S.net (place e)) 1 0 + delivered i m p (next S e) es
