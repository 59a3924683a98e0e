-- What an event sees in a table, in the words of its bytes, and what it is then answered: the protocol's ladders of tests (protocol/proofs/Ladders)
-- on that view. In order: what is seen, events of a session, events of a site.
use Prim.Native.Nat.{ℕ}
use mathlib.Core.Path.{◌≡◌, refl, sym, ap, ◌∙◌}
use mathlib.Core.List.{List, []}
use lib.ListN.{length}
use Rattle.vector.specs.Vec.{Vec}
use Rattle.protocol.specs.Record.{partition_of, Rec, Msg}
use Rattle.protocol.specs.State.{Session, closed}
use Rattle.protocol.specs.Event.{Event, OPEN, CLOSE, GET, BEGIN, READ, END}
use Rattle.protocol.specs.View.{of_session, at_site, View, place, view_at}
use Rattle.protocol.specs.Step.{judged}
use Rattle.protocol.proofs.Ladders.{open_of, open_judged, close_of, close_judged, get_of, get_judged, begin_of, begin_judged, read_of, read-judged, end_of, end_judged}
use Rattle.parts.specs.Node.{clock_in, heard_in, store_in}
use Rattle.parts.specs.Session.{session_in}
use Rattle.table.specs.Parts.{session_of, site_of, node_of}
use Rattle.table.specs.Decode.{setting_in, decode}
use Rattle.decision.specs.Answered.{answered}

-- ---- what is seen

-- at site m, by session x, with the messages l
abbrev pub sight : List ℕ → Session → (m : ℕ) → List Msg → View
sight t x m l = record {
  setting = setting_in t;
  session = x;
  clock = λ p. clock_in (node_of (site_of t m) p);
  heard = λ p. heard_in (node_of (site_of t m) p);
  store = λ p. store_in (node_of (site_of t m) p);
  sent = λ p j. length ((decode t).net.chan m j p);
  front = l;
}

-- by a session at its own site
abbrev pub seen_by : List ℕ → Session → View
seen_by t x = sight t x x.site []

-- of the node of a key at site m
abbrev pub heard_by : List ℕ → (m k : ℕ) → Vec
heard_by t m k = heard_in (node_of (site_of t m) (partition_of (setting_in t) k))

abbrev pub stored_by : List ℕ → (m k : ℕ) → List Rec
stored_by t m k = store_in (node_of (site_of t m) (partition_of (setting_in t) k))

-- ---- what an event of session s is answered, by the session x that was loaded

module _ (t : List ℕ) (s : ℕ) (x : Session) (told : x ≡ session_in (session_of t s)) where
  pub session-says : (e : Event) → place e ≡ of_session s → answered (decode t) e ≡ judged (seen_by t x) e
  unfolding answered decode
  session-says e d = ap (λ w. judged (view_at (decode t) w) e) d ∙ ap (λ y. judged (seen_by t y) e) (sym told)

  pub open_says : (m : ℕ) → answered (decode t) (OPEN s m) ≡ open_of (seen_by t x) s m
  open_says m = session-says (OPEN s m) refl ∙ open_judged (seen_by t x) s m

  pub close_says : answered (decode t) (CLOSE s) ≡ close_of (seen_by t x) s
  close_says = session-says (CLOSE s) refl ∙ close_judged (seen_by t x) s

  pub get_says : (k : ℕ) → answered (decode t) (GET s k) ≡ get_of (seen_by t x) s k
  get_says k = session-says (GET s k) refl ∙ get_judged (seen_by t x) s k

  pub begin_says : (p : ℕ) (ks : List ℕ) → answered (decode t) (BEGIN s p ks) ≡ begin_of (seen_by t x) s p ks
  begin_says p ks = session-says (BEGIN s p ks) refl ∙ begin_judged (seen_by t x) s p ks

  pub read-says : (k : ℕ) → answered (decode t) (READ s k) ≡ read_of (seen_by t x) s k
  read-says k = session-says (READ s k) refl ∙ read-judged (seen_by t x) s k

  pub end_says : answered (decode t) (END s) ≡ end_of (seen_by t x) s
  end_says = session-says (END s) refl ∙ end_judged (seen_by t x) s

-- ---- what an event of site m is answered

pub site-says : (t : List ℕ) (m : ℕ) (e : Event) → place e ≡ at_site m → answered (decode t) e ≡ judged (sight t closed m []) e
unfolding answered decode
site-says t m e d = ap (λ w. judged (view_at (decode t) w) e) d
