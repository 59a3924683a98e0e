-- What is decided of each event whose fields are in range, as a ladder of tests from top to bottom: `judged` is opened here, and the crates above
-- use these laws. In order: events of a session, then of a site, then DELIVER.
use Prim.Native.Nat.{ℕ, max}
use native.Mathlib.Omega.{arith}
use mathlib.Core.Path.{◌≡◌, refl}
use mathlib.Core.Bool.{Bool, true, false, cond, not, ◌&&◌, ◌||◌}
use mathlib.Core.List.{List, [], ◌∷◌}
use lib.Dec.{leb, ltb}
use lib.ListN.{length}
use lib.IntN.{ℤ}
use borrow.Author.Tests.{lt-ltb}
use Rattle.vector.specs.Vec.{at_most, at_most_but, first_short, first_short_but, largest, larger, with_entry}
use Rattle.protocol.specs.Record.{partition_of, Msg, Update, Heartbeat, of_key, fits_page, raised_by}
use Rattle.protocol.specs.Shelf.{found}
use Rattle.protocol.specs.State.{Session, no_page, closed, opened, with_vec, with_page}
use Rattle.protocol.specs.Event.{OPEN, CLOSE, CLOCK, GET, PUT, BEGIN, READ, END, BEAT, DELIVER, Answer, Done, Stamped, Refused, plain, wait_for, shown}
use Rattle.protocol.specs.View.{View}
use Rattle.protocol.specs.Needs.{get_ready, to_pass, put_ready, read_ready, beat_sends, store_room, send_room, front_updates, distinct, awaited, all_read, needs}
use Rattle.protocol.specs.Change.{Change, SetSession, SetClock, Publish, Receive}
use Rattle.protocol.specs.Serve.{Outcome, ◌and◌, written, begun, read_on, taken, serve}
use Rattle.protocol.specs.Step.{judge, judged}

-- a refusal, and nothing changes
abbrev pub refuse : ℕ → Outcome
refuse n = Refused (plain n) and []

-- a wait
abbrev pub wait : (site stamp : ℕ) → Outcome
wait m t = Refused (wait_for m t) and []

-- session s becomes x
abbrev pub keeps : Answer → ℕ → Session → Outcome
keeps a s x = a and SetSession s x ∷ []

-- what is done where the session is open, and 12 where it is not
abbrev pub if_open : Session → Outcome → Outcome
if_open x o = cond x.is_open o (refuse 12)

abbrev pub if_no_page : Session → Outcome → Outcome
if_no_page x o = if_open x (cond (not x.page.is_open) o (refuse 14))

abbrev pub if_page : Session → Outcome → Outcome
if_page x o = if_open x (cond x.page.is_open o (refuse 15))

-- where the first tests hold
pub if_no_page_lem : (x : Session) {o : Outcome} → x.is_open ≡ true → x.page.is_open ≡ false → if_no_page x o ≡ o
if_no_page_lem x {o} e f = λ i. cond (e i) (cond (not (f i)) o (refuse 14)) (refuse 12)

pub if_page_lem : (x : Session) {o : Outcome} → x.is_open ≡ true → x.page.is_open ≡ true → if_page x o ≡ o
if_page_lem x {o} e f = λ i. cond (e i) (cond (f i) o (refuse 15)) (refuse 12)

module _ (v : View) where
  abbrev x : Session
  x = v.session

  -- ---- events of a session

  abbrev pub open_of : (s m : ℕ) → Outcome
  open_of s m = cond (not x.is_open) (keeps Done s (opened m)) (refuse 13)

  pub open_judged : (s m : ℕ) → judged v (OPEN s m) ≡ open_of s m
  unfolding judged judge needs serve
  open_judged s m = refl

  abbrev pub close_of : (s : ℕ) → Outcome
  close_of s = if_open x (keeps Done s closed)

  pub close_judged : (s : ℕ) → judged v (CLOSE s) ≡ close_of s
  unfolding judged judge needs serve
  close_judged s = refl

  abbrev pub get_of : (s k : ℕ) → Outcome
  get_of s k =
      let p = partition_of v.setting k in
      let o = found v.setting (of_key k) (v.store p) in
      let short = first_short_but x.site x.vec (v.heard p) in
      if_no_page x (cond (at_most_but x.site x.vec (v.heard p)) (keeps (shown o) s (with_vec x (raised_by x.vec o))) (wait short (x.vec short)))

  pub get_judged : (s k : ℕ) → judged v (GET s k) ≡ get_of s k
  unfolding judged judge needs serve get_ready
  get_judged s k = refl

  -- where the stamp is t
  abbrev pub stamped_by : (s k q : ℕ) (l : ℤ) (p t : ℕ) → Outcome
  stamped_by s k q l p t = Stamped x.site t and Publish x.site p (Update (written x k q l t)) ∷ SetSession s (with_vec x (with_entry x.vec x.site t)) ∷ []

  -- by room for the record and room in the node's channels
  abbrev pub put_at : (s k q : ℕ) (l : ℤ) (p : ℕ) (slot room : Bool) → Outcome
  put_at s k q l p slot room =
      let own = v.heard p x.site in
      cond slot (cond room (cond (ltb (max (largest x.vec) own) (v.clock p)) (stamped_by s k q l p (v.clock p)) (wait x.site (max (largest x.vec) own))) (refuse 21)) (refuse 22)

  pub put-judged : (s k q : ℕ) (l : ℤ) →
      let p = partition_of v.setting k in
      judged v (PUT s k q l) ≡ if_no_page x (put_at s k q l p (store_room (v.store p)) (send_room v x.site p))
  unfolding judged judge needs serve put_ready to_pass
  put-judged s k q l = refl

  abbrev pub begin_of : (s p : ℕ) (ks : List ℕ) → Outcome
  begin_of s p ks = if_no_page x (cond (distinct ks) (keeps Done s (with_page x (begun (v.heard p) x.vec ks))) (refuse 17))

  pub begin_judged : (s p : ℕ) (ks : List ℕ) → judged v (BEGIN s p ks) ≡ begin_of s p ks
  unfolding judged judge needs serve
  begin_judged s p ks = refl

  abbrev pub read_of : (s k : ℕ) → Outcome
  read_of s k =
      let p = partition_of v.setting k in
      let g = x.page in
      let o = found v.setting (fits_page k g.vec) (v.store p) in
      let short = first_short g.vec (v.heard p) in
      if_page x (cond (awaited k g.marks) (cond (at_most g.vec (v.heard p)) (keeps (shown o) s (with_page x (read_on g k o))) (wait short (g.vec short))) (refuse 16))

  pub read-judged : (s k : ℕ) → judged v (READ s k) ≡ read_of s k
  unfolding judged judge needs serve read_ready
  read-judged s k = refl

  abbrev pub end_of : (s : ℕ) → Outcome
  end_of s = if_page x (cond (all_read x.page.marks) (keeps Done s (with_page (with_vec x (larger x.vec x.page.gathered)) no_page)) (refuse 18))

  pub end_judged : (s : ℕ) → judged v (END s) ≡ end_of s
  unfolding judged judge needs serve
  end_judged s = refl

  -- ---- events of a site

  pub clock-judged : (m p t : ℕ) → judged v (CLOCK m p t) ≡ cond (leb (v.clock p) t) (Done and SetClock m p t ∷ []) (refuse 19)
  unfolding judged judge needs serve
  clock-judged m p t = refl

  pub beat-judged : (m p : ℕ) → judged v (BEAT m p) ≡ cond (beat_sends (v.heard p m) (v.clock p)) (cond (send_room v m p) (Done and Publish m p (Heartbeat (v.clock p)) ∷ []) (refuse 21)) (Done and [])
  unfolding judged judge needs serve
  beat-judged m p = go (beat_sends (v.heard p m) (v.clock p)) (send_room v m p) (Publish m p (Heartbeat (v.clock p)) ∷ [])
    where
      go : (a r : Bool) (l : List Change) → cond (not a || r) (Done and cond a l []) (refuse 21) ≡ cond a (cond r (Done and l) (refuse 21)) (Done and [])
      go true true l = refl
      go true false l = refl
      go false r l = refl

  -- ---- DELIVER, by the channel's messages

  pub deliver_none : (i m p : ℕ) → v.front ≡ [] → judged v (DELIVER i m p) ≡ refuse 20
  unfolding judged judge needs serve
  deliver_none i m p e = rw e

  pub deliver_first : (i m p : ℕ) (y : Msg) (l : List Msg) → v.front ≡ y ∷ l →
      judged v (DELIVER i m p) ≡ cond (front_updates (y ∷ []) && not (store_room (v.store p))) (refuse 22) (Done and Receive i m p y ∷ [])
  unfolding judged judge needs serve
  deliver_first i m p y l e = rw (e, lt-ltb 0 (length (y ∷ l)) (omega arith)) (go y (store_room (v.store p)))
    where
      go : (y : Msg) (b : Bool) → cond (not (front_updates (y ∷ l)) || b) (Done and taken i m p (y ∷ l)) (refuse 22) ≡ cond (front_updates (y ∷ []) && not b) (refuse 22) (Done and Receive i m p y ∷ [])
      go (Update r) true = unfold front_updates taken in refl
      go (Update r) false = unfold front_updates taken in refl
      go (Heartbeat s) b = unfold front_updates taken in refl
