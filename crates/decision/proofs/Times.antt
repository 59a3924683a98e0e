-- What CLOCK and BEAT are answered, in the words of the bytes.
use Prim.Native.Nat.{ℕ, ◌≤◌, ◌<◌}
use mathlib.Core.Path.{◌≡◌, refl, ◌∙◌}
use mathlib.Core.Bool.{cond}
use mathlib.Core.List.{List, [], ◌∷◌}
use lib.Dec.{leb, ltb}
use Rattle.codec.specs.Le.{load}
use Rattle.protocol.specs.Record.{Heartbeat}
use Rattle.protocol.specs.State.{closed}
use Rattle.protocol.specs.Event.{CLOCK, BEAT}
use Rattle.protocol.specs.Needs.{beat_sends}
use Rattle.protocol.specs.Change.{SetClock, Publish}
use Rattle.protocol.specs.Serve.{◌and◌}
use Rattle.protocol.specs.declared.Answer.TheVariants.{Done}
use Rattle.protocol.proofs.Ladders.{refuse, clock-judged, beat-judged}
use Rattle.parts.specs.Node.{clock_in, heard_in}
use Rattle.table.specs.Parts.{site_of, node_of}
use Rattle.table.specs.Decode.{decode}
use Rattle.decision.specs.Answered.{answered}
use Rattle.decision.proofs.Ladders.{sight, site-says}
use Rattle.decision.proofs.Room.{roomy, send_room_lem}

pub clock-answered : (t : List ℕ) (m p time : ℕ) → answered (decode t) (CLOCK m p time) ≡ cond (leb (clock_in (node_of (site_of t m) p)) time) (Done and SetClock m p time ∷ []) (refuse 19)
clock-answered t m p time = site-says t m (CLOCK m p time) refl ∙ clock-judged (sight t closed m []) m p time

pub beat-answered : (t : List ℕ) (m p : ℕ) → m < load 1 t 0 → load 1 t 0 ≤ 4
    → answered (decode t) (BEAT m p)
    ≡ cond (ltb (heard_in (node_of (site_of t m) p) m) (clock_in (node_of (site_of t m) p))) (cond (roomy t m p) (Done and Publish m p (Heartbeat (clock_in (node_of (site_of t m) p))) ∷ []) (refuse 21)) (Done and [])
unfolding beat_sends
beat-answered t m p h few = site-says t m (BEAT m p) refl ∙ beat-judged (sight t closed m []) m p ∙ rw (send_room_lem t m p h few closed [])
