-- What a step looks at, which is all that may influence it (R73): the event's session, the nodes of one site, how full their outgoing channels are
-- and, for DELIVER, the channel named.
use Rattle.std.specs.Prelude.{ℕ, List, [], length}
use Rattle.vector.specs.Vec.{Vec}
use Rattle.protocol.specs.Record.{Setting, Rec, Msg}
use Rattle.protocol.specs.State.{Session, Net, State, closed}
use Rattle.protocol.specs.Event.{Event, OPEN, CLOSE, CLOCK, GET, PUT, BEGIN, READ, END, BEAT, DELIVER}

-- where an event looks: its session and that session's site, a site alone, or a site and a channel to it
pub data Place : Type 0 where
  of_session : (s : ℕ) → Place
  at_site : (m : ℕ) → Place
  on_channel : (i m p : ℕ) → Place

abbrev pub place : Event → Place
place (OPEN s m) = of_session s
place (CLOSE s) = of_session s
place (CLOCK m p t) = at_site m
place (GET s k) = of_session s
place (PUT s k q l) = of_session s
place (BEGIN s p ks) = of_session s
place (READ s k) = of_session s
place (END s) = of_session s
place (BEAT m p) = at_site m
place (DELIVER i m p) = on_channel i m p

-- clock p, heard p, store p: of the site's node of partition p. sent p j: how many messages wait in its channel to site j
pub record View : Type 0 where
  pub setting : Setting
  pub session : Session
  pub clock : ℕ → ℕ
  pub heard : ℕ → Vec
  pub store : ℕ → List Rec
  pub sent : ℕ → ℕ → ℕ
  pub front : List Msg

abbrev pub look : Net → Session → (m : ℕ) → List Msg → View
look N x m l = record { setting = N.setting; session = x; clock = N.clock m; heard = N.heard m; store = N.store m; sent = λ p j. length (N.chan m j p); front = l }

abbrev pub view_at : State → Place → View
view_at S (of_session s) = look S.net (S.session s) (S.session s).site []
view_at S (at_site m) = look S.net closed m []
view_at S (on_channel i m p) = look S.net closed m (S.net.chan i m p)

abbrev pub view : State → Event → View
view S e = view_at S (place e)
