-- What a step changes is lawful, where what it looks at is. In order: lawful changes, a session, what a page shows and what a message wants, then
-- every event and every step. Of states alone: no bytes.
use Prim.Native.Nat.{ℕ, ◌≤◌, ◌<◌}
use native.Mathlib.Nat.{mod-lt}
use native.Mathlib.Omega.{arith}
use mathlib.Core.Path.{◌≡◌, refl, ap}
use mathlib.Core.Logic.{⊎_elim}
use mathlib.Core.Bool.{Bool, not, ◌||◌}
use mathlib.Core.List.Memᴰ
use mathlib.Core.List.{List, [], ◌∷◌}
use mathlib.Core.Option.{Option, some, none}
use lib.Dec.{T, leb, ltb, eqb}
use lib.IntN.{ℤ}
use lib.ListN.{length}
use mir.Facts.{and_yes, or_yes, ltb_yes, leb_yes, eqb_yes, eqb_no}
use Rattle.codec.proofs.Tests.{cond_elim, implies}
use Rattle.codec.proofs.Below.{all_below-at}
use Rattle.vector.specs.Vec.{Vec, larger, with_entry}
use Rattle.protocol.specs.Record.{Setting, partition_of, Rec, Msg, Update, Heartbeat, of_key, fits_page, raised_by}
use Rattle.protocol.specs.Shelf.{found}
use Rattle.protocol.specs.Times.{time_limit, top_of}
use Rattle.protocol.specs.State.{Mark, Page, Session, State, no_page, closed, opened, with_vec, with_page}
use Rattle.protocol.specs.Event.{Event, OPEN, CLOSE, CLOCK, GET, PUT, BEGIN, READ, END, BEAT, DELIVER}
use Rattle.protocol.specs.View.{View, view}
use Rattle.protocol.specs.Needs.{level_lawful, keys_lawful, distinct, ranges, needs, beat_sends, store_room, send_room, front_updates}
use Rattle.protocol.specs.Change.{Change, SetSession, SetClock, Publish, Receive, apply, publish}
use Rattle.protocol.specs.Serve.{written, unread, mark_read, begun, read_on, taken, serve}
use Rattle.protocol.specs.Step.{step}
use Rattle.protocol.specs.Past.{◌∈◌}
use Rattle.protocol.proofs.Times.{time-below_top}
use Rattle.protocol.proofs.Judge.{Met, step_elim}
use Rattle.protocol.proofs.Order.{NewestOf}
use Rattle.protocol.proofs.Shelf.{found_is}
use Rattle.record.proofs.Ranges.{LawfulVec, zeros_lawful, larger_lawful, with_entry_lawful, raised_lawful, LawfulRec, LawfulMsg}
use Rattle.lawful.specs.LawfulValues.{keys_of}
use Rattle.lawful.proofs.LawfulValues.{LawfulPage, marks_fit, LawfulSession, LawfulState}

-- ---- lawful changes of a state

-- an update wants a place of the store
abbrev pub RoomIn : Msg → List Rec → Type 0
RoomIn (Update r) l = length l < 32
RoomIn (Heartbeat t) l = Unit {0}

pub record LawfulPublish (m p : ℕ) (x : Msg) (S : State) : Type 0 where
  pub site : m < S.net.setting.sites
  pub partition : p < S.net.setting.partitions
  pub msg : LawfulMsg S.net.setting m p x
  pub room : RoomIn x (S.net.store m p)
  pub ways : (j : ℕ) → j < S.net.setting.sites → (j ≡ m → ⊥) → length (S.net.chan m j p) < 8

pub record LawfulReceive (i m p : ℕ) (x : Msg) (S : State) : Type 0 where
  pub source : i < S.net.setting.sites
  pub site : m < S.net.setting.sites
  pub other : i ≡ m → ⊥
  pub partition : p < S.net.setting.partitions
  pub msg : LawfulMsg S.net.setting i p x
  pub room : RoomIn x (S.net.store m p)
  pub waits : 0 < length (S.net.chan i m p)

abbrev pub Lawful : Change → State → Type 0
Lawful (SetSession s x) S = (s < 16) × LawfulSession S.net.setting x
Lawful (SetClock m p t) S = (m < S.net.setting.sites) × (p < S.net.setting.partitions) × (t < time_limit)
Lawful (Publish m p x) S = LawfulPublish m p x S
Lawful (Receive i m p x) S = LawfulReceive i m p x S

-- each change is lawful in the state that those before it lead to
abbrev pub LawfulAll : List Change → State → Type 0
LawfulAll [] S = Unit {0}
LawfulAll (c ∷ cs) S = Lawful c S × LawfulAll cs (apply c S)

-- ---- a session

module _ (c : Setting) where
  no_page_lawful : LawfulPage c no_page
  unfolding no_page
  no_page_lawful = record { count = omega arith; keys = tt; used = λ t. absurd t; vec = zeros_lawful c; gathered = zeros_lawful c }

  pub closed_lawful : LawfulSession c closed
  unfolding closed
  closed_lawful = record { site = omega arith; here = λ t. absurd t; vec = zeros_lawful c; page = no_page_lawful }

  opened_lawful : (m : ℕ) → c.sites ≤ 4 → m < c.sites → LawfulSession c (opened m)
  unfolding opened
  opened_lawful m few h = record { site = omega arith; here = λ t. h; vec = zeros_lawful c; page = no_page_lawful }

  with_vec_lawful : (x : Session) (v : Vec) → LawfulSession c x → LawfulVec c v → LawfulSession c (with_vec x v)
  with_vec_lawful x v X ok = record { site = X.site; here = X.here; vec = ok; page = X.page }

  with_page_lawful : (x : Session) (g : Page) → LawfulSession c x → LawfulPage c g → LawfulSession c (with_page x g)
  with_page_lawful x g X ok = record { site = X.site; here = X.here; vec = X.vec; page = ok }

  -- what a search finds among lawful records raises a lawful vector to one
  found_lawful : (p : ℕ) (l : List Rec) (fit : Rec → Bool) (v : Vec) → ((r : Rec) → r ∈ l → LawfulRec c p r) → LawfulVec c v → LawfulVec c (raised_by v (found c fit l))
  unfolding raised_by NewestOf
  found_lawful p l fit v all ok = go (found c fit l) (found_is c fit l)
    where
      go : (o : Option Rec) → NewestOf c fit l o → LawfulVec c (raised_by v o)
      go none n = ok
      go (some r) n = let R = all r n.0 in raised_lawful c v r.carried r.id.source r.id.stamp ok R.carried R.source R.stamp

-- ---- pages

length-unread : (ks : List ℕ) → length (unread ks) ≡ length ks
unfolding unread
length-unread [] = refl
length-unread (k ∷ ks) = omega (arith, length-unread ks)

keys_unread : (ks : List ℕ) → keys_of (unread ks) ≡ ks
unfolding unread keys_of
keys_unread [] = refl
keys_unread (k ∷ ks) = ap (λ l. k ∷ l) (keys_unread ks)

length-mark_read : (k : ℕ) (ms : List Mark) → length (mark_read k ms) ≡ length ms
unfolding mark_read
length-mark_read k [] = refl
length-mark_read k (m ∷ ms) = omega (arith, length-mark_read k ms)

keys_mark_read : (k : ℕ) (ms : List Mark) → keys_of (mark_read k ms) ≡ keys_of ms
unfolding mark_read keys_of
keys_mark_read k [] = refl
keys_mark_read k (m ∷ ms) = ap (λ l. m.key ∷ l) (keys_mark_read k ms)

-- an open page of lawful marks
module _ (c : Setting) (g : Page) (h : 0 < length g.marks) (few : length g.marks ≤ 8) (keys : T (keys_lawful (keys_of g.marks))) (apart : T (distinct (keys_of g.marks))) where
  used_lawful : LawfulVec c g.vec → LawfulVec c g.gathered → LawfulPage c g
  used_lawful ok ok' = record { count = few; keys = marks_fit g.marks keys; used = λ t. (h, keys, apart); vec = ok; gathered = ok' }

begun_lawful : (c : Setting) (v w : Vec) (ks : List ℕ) → 0 < length ks → length ks ≤ 8 → T (keys_lawful ks) → T (distinct ks) → LawfulVec c v → LawfulVec c w → LawfulPage c (begun v w ks)
unfolding begun
begun_lawful c v w ks h few keys apart ok ok' =
    used_lawful c (begun v w ks) (omega (arith, length-unread ks)) (omega (arith, length-unread ks))
    (rw (keys_unread ks) keys) (rw (keys_unread ks) apart) (larger_lawful c v w ok ok') (zeros_lawful c)

read_lawful : (c : Setting) (g : Page) (k : ℕ) (o : Option Rec) → T g.is_open → LawfulPage c g → LawfulVec c (raised_by g.gathered o) → LawfulPage c (read_on g k o)
unfolding read_on
read_lawful c g k o t page ok =
    let u = page.used t in
    used_lawful c (read_on g k o) (omega (arith, length-mark_read k g.marks)) (omega (arith, page.count, length-mark_read k g.marks))
    (rw (keys_mark_read k g.marks) u.1) (rw (keys_mark_read k g.marks) u.2) page.vec ok

-- ---- room

send_room_lem : (v : View) (m p : ℕ) → T (send_room v m p) → (j : ℕ) → j < v.setting.sites → (j ≡ m → ⊥) → v.sent p j < 8
unfolding send_room
send_room_lem v m p t j h d =
    ⊎_elim (λ e. absurd (d (eqb_yes e))) (λ l. ltb_yes l)
    (or_yes (eqb j m) (ltb (v.sent p j) 8) (all_below-at v.setting.sites (λ j. eqb j m || ltb (v.sent p j) 8) t j h))

store-room : (l : List Rec) → T (store_room l) → length l < 32
unfolding store_room
store-room l t = ltb_yes t

front-room : (x : Msg) (q : List Msg) (l : List Rec) → T (not (front_updates (x ∷ q)) || store_room l) → RoomIn x l
unfolding front_updates
front-room (Update r) q l t = store-room l t
front-room (Heartbeat s) q l t = tt

-- ---- every event

module _ (S : State) (ok : LawfulState S) where
  abbrev c : Setting
  c = S.net.setting

  part_lt : (k : ℕ) → partition_of c k < c.partitions
  part_lt k = mod-lt k ok.partition

  -- a clock's time can be a stamp
  clock_stamps : (m p : ℕ) → m < 4 → p < 4 → S.net.clock m p < top_of c
  clock_stamps m p h g = omega (arith, ok.clock m p h g, time-below_top c)

  -- a session that is open
  module _ (s : ℕ) (h : s < 16) (t : T (S.session s).is_open) where
    abbrev x : Session
    x = S.session s

    here : x.site < c.sites
    here = (ok.session s h).here t

    real : x.site < 4
    real = omega (arith, here, ok.sites)

    vec-set : (v : Vec) → LawfulVec c v → LawfulAll (SetSession s (with_vec x v) ∷ []) S
    vec-set v a = ((h, with_vec_lawful c x v (ok.session s h) a), tt)

    page-set : (g : Page) → LawfulPage c g → LawfulAll (SetSession s (with_page x g) ∷ []) S
    page-set g a = ((h, with_page_lawful c x g (ok.session s h) a), tt)

    raised-set : (k : ℕ) (fit : Rec → Bool) (v : Vec) → LawfulVec c v → LawfulVec c (raised_by v (found c fit (S.net.store x.site (partition_of c k))))
    raised-set k fit v a =
        let p = partition_of c k in
        found_lawful c p (S.net.store x.site p) fit v (ok.store x.site p real (omega (arith, part_lt k, ok.partitions))) a

    put-set : (k q : ℕ) (l : ℤ) → k < 64 → q < 3 → T (level_lawful l) → length (S.net.store x.site (partition_of c k)) < 32
        → ((j : ℕ) → j < c.sites → (j ≡ x.site → ⊥) → length (S.net.chan x.site j (partition_of c k)) < 8)
        → LawfulAll (Publish x.site (partition_of c k) (Update (written x k q l (S.net.clock x.site (partition_of c k)))) ∷ SetSession s (with_vec x (with_entry x.vec x.site (S.net.clock x.site (partition_of c k)))) ∷ []) S
    unfolding written apply publish
    put-set k q l a b d room ways =
        let p = partition_of c k in
        let part = part_lt k in
        let clock = clock_stamps x.site p real (omega (arith, ok.partitions)) in
        let X = ok.session s h in (
          record {
            site = here;
            partition = part;
            msg = (refl, record { key = a; partition = refl; source = here; quality = b; level = d; stamp = clock; carried = X.vec });
            room = room;
            ways = ways;
          },
          ((h, with_vec_lawful c x (with_entry x.vec x.site (S.net.clock x.site p)) X (with_entry_lawful c x.vec x.site (S.net.clock x.site p) X.vec here clock)), tt),
        )

  take-set : (i m p : ℕ) (q : List Msg) → i < c.sites → m < c.sites → (i ≡ m → ⊥) → p < c.partitions → ((y : Msg) → y ∈ q → LawfulMsg c i p y)
      → length q ≤ length (S.net.chan i m p) → T (not (front_updates q) || store_room (S.net.store m p)) → LawfulAll (taken i m p q) S
  unfolding taken
  take-set i m p [] a b d e all l room = tt
  take-set i m p (y ∷ q) a b d e all l room =
      (record { source = a; site = b; other = d; partition = e; msg = all y (Memᴰ.head refl); room = front-room y q (S.net.store m p) room; waits = omega arith }, tt)

  serve_lawful : (e : Event) → Met (ranges c e) → Met (needs (view S e) e) → LawfulAll (serve (view S e) e).changes S
  unfolding serve needs ranges
  serve_lawful (OPEN s m) r t = ((ltb_yes r.1.0, opened_lawful c m ok.sites (ltb_yes r.0)), tt)
  serve_lawful (CLOSE s) r t = ((ltb_yes r.0, closed_lawful c), tt)
  serve_lawful (CLOCK m p u) r t = ((ltb_yes r.0, ltb_yes r.1.0, ltb_yes r.1.1.0), tt)
  serve_lawful (GET s k) r t =
      let h : s < 16 = ltb_yes r.0 in
      let X = ok.session s h in
      let v = raised_by (S.session s).vec (found c (of_key k) (S.net.store (S.session s).site (partition_of c k))) in
      vec-set s h t.0 v (raised-set s h t.0 k (of_key k) (S.session s).vec X.vec)
  serve_lawful (PUT s k q l) r t =
      let m = (S.session s).site in
      put-set s (ltb_yes r.0) t.0 k q l (ltb_yes r.1.0) (ltb_yes r.1.1.0) r.1.1.1.0 (store-room (S.net.store m (partition_of c k)) t.1.1.0)
      (send_room_lem (view S (PUT s k q l)) m (partition_of c k) t.1.1.1.0)
  serve_lawful (BEGIN s p ks) r t =
      let h : s < 16 = ltb_yes r.1.0 in
      let X = ok.session s h in
      let v = S.net.heard (S.session s).site p in
      let part : p < c.partitions = ltb_yes r.0 in
      let count = and_yes (ltb 0 (length ks)) (leb (length ks) 8) r.1.1.0 in
      page-set s h t.0 (begun v (S.session s).vec ks)
      (begun_lawful c v (S.session s).vec ks (ltb_yes count.0) (leb_yes count.1) r.1.1.1.0 t.1.1.0
      (ok.heard (S.session s).site p (real s h t.0) (omega (arith, ok.partitions))) X.vec)
  serve_lawful (READ s k) r t =
      let h : s < 16 = ltb_yes r.0 in
      let X = ok.session s h in
      let g = (S.session s).page in
      let fit = fits_page k g.vec in
      let o = found c fit (S.net.store (S.session s).site (partition_of c k)) in
      page-set s h t.0 (read_on g k o)
      (read_lawful c g k o t.1.0 X.page (raised-set s h t.0 k fit g.gathered X.page.gathered))
  serve_lawful (END s) r t =
      let h : s < 16 = ltb_yes r.0 in
      let X = ok.session s h in
      let x = S.session s in
      let v = larger x.vec x.page.gathered in
      ((h, with_page_lawful c (with_vec x v) no_page (with_vec_lawful c x v X (larger_lawful c x.vec x.page.gathered X.vec X.page.gathered)) (no_page_lawful c)), tt)
  serve_lawful (BEAT m p) r t =
      let site : m < c.sites = ltb_yes r.0 in
      let part : p < c.partitions = ltb_yes r.1.0 in
      let sends = beat_sends (S.net.heard m p m) (S.net.clock m p) in
      cond_elim (λ cs. LawfulAll cs S) sends
      (λ u. (
        record {
          site = site;
          partition = part;
          msg = clock_stamps m p (omega (arith, ok.sites)) (omega (arith, ok.partitions));
          room = tt;
          ways = send_room_lem (view S (BEAT m p)) m p (implies sends (send_room (view S (BEAT m p)) m p) t.0 u);
        },
        tt,
      )) (λ u. tt)
  serve_lawful (DELIVER i m p) r t =
      let site : m < c.sites = ltb_yes r.0 in
      let part : p < c.partitions = ltb_yes r.1.0 in
      let from = and_yes (ltb i c.sites) (not (eqb i m)) r.1.1.0 in
      let source : i < c.sites = ltb_yes from.0 in
      take-set i m p (S.net.chan i m p) source site (eqb_no from.1) part (ok.chan i m p (omega (arith, ok.sites)) (omega (arith, ok.partitions))) (omega arith) t.1.0

pub step_lawful : (S : State) → LawfulState S → (e : Event) → LawfulAll (step S e).changes S
step_lawful S ok e = step_elim S e (λ o. LawfulAll o.changes S) (λ w. tt) (serve_lawful S ok e)
