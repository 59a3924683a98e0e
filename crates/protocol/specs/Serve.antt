-- What each event answers and changes where all that it needs holds (R41 to R50).
use Rattle.std.specs.Prelude.{ℕ, true, false, cond, ◌||◌, List, [], ◌∷◌, map, eqb, ℤ}
use Rattle.std.proofs.Math.Option.{Option}
use Rattle.vector.specs.Vec.{Vec, zeros, larger, with_entry}
use Rattle.protocol.specs.Record.{partition_of, Rec, Msg, Update, Heartbeat, of_key, fits_page, raised_by}
use Rattle.protocol.specs.Shelf.{found}
use Rattle.protocol.specs.State.{Mark, Page, Session, no_page, closed, opened, with_vec, with_page}
use Rattle.protocol.specs.Event.{Event, OPEN, CLOSE, CLOCK, GET, PUT, BEGIN, READ, END, BEAT, DELIVER, Answer, Done, Stamped, shown}
use Rattle.protocol.specs.View.{View}
use Rattle.protocol.specs.Needs.{beat_sends}
use Rattle.protocol.specs.Change.{Change, SetSession, SetClock, Publish, Receive}

infix 10 ◌and◌
pub record Outcome : Type 0 where
  pub says : Answer
  pub changes : List Change

abbrev pub ◌and◌ : Answer → List Change → Outcome
a and cs = record { says = a; changes = cs }

-- R45: the record carries the session's vector as it was before
unfoldable pub written : Session → (k q : ℕ) (l : ℤ) (t : ℕ) → Rec
written x k q l t = record { id = record { key = k; source = x.site; stamp = t }; quality = q; level = l; carried = x.vec }

unfoldable pub unread : List ℕ → List Mark
unread ks = map (λ k. record { key = k; read = false }) ks

unfoldable pub mark_read : ℕ → List Mark → List Mark
mark_read k ms = map (λ m. record { key = m.key; read = m.read || eqb m.key k }) ms

-- R46: the coordinator is the node of the event's partition
unfoldable pub begun : (coordinator session : Vec) → List ℕ → Page
begun coordinator session ks = record { is_open = true; vec = larger coordinator session; marks = unread ks; gathered = zeros }

unfoldable pub read_on : Page → (k : ℕ) → Option Rec → Page
read_on g k o = record { is_open = true; vec = g.vec; marks = mark_read k g.marks; gathered = raised_by g.gathered o }

unfoldable pub taken : (i m p : ℕ) → List Msg → List Change
taken i m p [] = []
taken i m p (x ∷ l) = Receive i m p x ∷ []

unfoldable pub serve : View → Event → Outcome
serve v (OPEN s m) = Done and SetSession s (opened m) ∷ []
serve v (CLOSE s) = Done and SetSession s closed ∷ []
serve v (CLOCK m p t) = Done and SetClock m p t ∷ []
serve v (GET s k) =
    let x = v.session in
    let o = found v.setting (of_key k) (v.store (partition_of v.setting k)) in
    shown o and SetSession s (with_vec x (raised_by x.vec o)) ∷ []
serve v (PUT s k q l) =
    let x = v.session in
    let p = partition_of v.setting k in
    let t = v.clock p in
    Stamped x.site t and
    Publish x.site p (Update (written x k q l t)) ∷
    SetSession s (with_vec x (with_entry x.vec x.site t)) ∷ []
serve v (BEGIN s p ks) =
    let x = v.session in
    Done and SetSession s (with_page x (begun (v.heard p) x.vec ks)) ∷ []
serve v (READ s k) =
    let x = v.session in
    let o = found v.setting (fits_page k x.page.vec) (v.store (partition_of v.setting k)) in
    shown o and SetSession s (with_page x (read_on x.page k o)) ∷ []
serve v (END s) =
    let x = v.session in
    Done and SetSession s (with_page (with_vec x (larger x.vec x.page.gathered)) no_page) ∷ []
serve v (BEAT m p) = Done and cond (beat_sends (v.heard p m) (v.clock p)) (Publish m p (Heartbeat (v.clock p)) ∷ []) []
serve v (DELIVER i m p) = Done and taken i m p v.front
