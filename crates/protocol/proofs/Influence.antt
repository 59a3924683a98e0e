-- What may influence a step, and that a refusal changes nothing. In order: what a step sees of its view and of a state, `influenced`; `refused_still`
-- and `untouched`.
use Prim.Native.Nat.{ℕ, ◌<◌}
use native.Mathlib.Nat.{mod-mod, mod-eq_of_lt}
use native.Mathlib.Omega.{arith}
use mathlib.Core.Path.{◌≡◌, refl, sym, ap, ◌∙◌}
use mathlib.Core.Bool.{Bool, true, false, cond}
use mathlib.Core.List.{List, []}
use mathlib.Core.Option.{Option, some, none}
use lib.Dec.{T, ltb}
use lib.ListN.{length}
use mir.Facts.{ltb_yes}
use borrow.Author.Tests.{lt-ltb}
use Rattle.codec.proofs.Below.{all_below_ext}
use Rattle.vector.specs.Vec.{zeros}
use Rattle.protocol.specs.Record.{Setting, partition_of, Rec, Msg}
use Rattle.protocol.specs.State.{Net, Session, State, closed}
use Rattle.protocol.specs.Event.{Event, OPEN, CLOSE, CLOCK, GET, PUT, BEGIN, READ, END, BEAT, DELIVER, Answer, Done, Stamped, Value, Nothing, Refusal, Refused, shown}
use Rattle.protocol.specs.View.{Place, of_session, at_site, on_channel, View, look, view_at, view, place}
use Rattle.protocol.specs.Needs.{ranges, send_room, needs}
use Rattle.protocol.specs.Change.{apply_all}
use Rattle.protocol.specs.Serve.{Outcome, serve}
use Rattle.protocol.specs.Step.{judge, judged, decide, step, next}
use Rattle.protocol.specs.Promises.{SiteAlike, Alike, Influenced, Untouched}
use Rattle.protocol.proofs.Judge.{Met, judge_same, step_elim}
use Rattle.protocol.proofs.Reach.{part_is}

-- ---- what a step sees of its view

-- the nodes of partitions, and the channels to sites
abbrev within : View → View
within v = record {
  setting = v.setting;
  session = v.session;
  clock = λ p. v.clock (partition_of v.setting p);
  heard = λ p. v.heard (partition_of v.setting p);
  store = λ p. v.store (partition_of v.setting p);
  sent = λ p j. cond (ltb j v.setting.sites) (v.sent (partition_of v.setting p) j) 0;
  front = v.front;
}

-- the session and the constants alone
abbrev alone : Setting → Session → View
alone c x = record { setting = c; session = x; clock = λ p. 0; heard = λ p. zeros; store = λ p. []; sent = λ p j. 0; front = [] }

-- the partition of a key, and one that an event names
part_key : (c : Setting) (k : ℕ) → partition_of c (partition_of c k) ≡ partition_of c k
part_key c k = mod-mod k c.partitions

part_named : (c : Setting) (p : ℕ) → T (ltb p c.partitions) → partition_of c p ≡ p
part_named c p t = mod-eq_of_lt (ltb_yes t)

module _ (v : View) where
  abbrev c : Setting
  c = v.setting

  send_within : (m p : ℕ) → partition_of c p ≡ p → send_room v m p ≡ send_room (within v) m p
  unfolding send_room
  send_within m p e = all_below_ext c.sites _ _ (λ j l. rw (e, lt-ltb j c.sites l))

  judged-within : (e : Event) → Met (ranges c e) → judged v e ≡ judged (within v) e
  unfolding judged judge needs serve ranges
  judged-within (OPEN s m) r = refl
  judged-within (CLOSE s) r = refl
  judged-within (CLOCK m p t) r = rw (within, part_named c p r.1.0)
  judged-within (GET s k) r = rw (within, part_key c k)
  judged-within (PUT s k q l) r = rw (← send_within v.session.site (partition_of c k) (part_key c k), within, part_key c k)
  judged-within (BEGIN s p ks) r = rw (within, part_named c p r.0)
  judged-within (READ s k) r = rw (within, part_key c k)
  judged-within (END s) r = refl
  judged-within (BEAT m p) r = let e = part_named c p r.1.0 in rw (← send_within m p e, within, e)
  judged-within (DELIVER i m p) r = rw (within, part_named c p r.1.0)

  -- an event of a session that is not open sees that session alone
  judged_alone : (e : Event) (s : ℕ) → place e ≡ of_session s → v.session.is_open ≡ false → judged v e ≡ judged (alone c v.session) e
  unfolding judged judge needs serve
  judged_alone (OPEN s m) i d z = refl
  judged_alone (CLOSE s) i d z = refl
  judged_alone (CLOCK m p t) i d z = let y : ◌≡◌ {A = ℕ} 0 1 = cc in absurd (omega arith)
  judged_alone (GET s k) i d z = rw z
  judged_alone (PUT s k q l) i d z = rw z
  judged_alone (BEGIN s p ks) i d z = rw z
  judged_alone (READ s k) i d z = rw z
  judged_alone (END s) i d z = refl
  judged_alone (BEAT m p) i d z = let y : ◌≡◌ {A = ℕ} 0 1 = cc in absurd (omega arith)
  judged_alone (DELIVER h m p) i d z = let y : ◌≡◌ {A = ℕ} 0 1 = cc in absurd (omega arith)

-- ---- and so all that it sees of a state

abbrev by_session : Net → Session → View
by_session N x = cond x.is_open (within (look N x x.site [])) (alone N.setting x)

abbrev seen_at : State → Place → View
seen_at S (of_session s) = by_session S.net (S.session s)
seen_at S (at_site m) = within (view_at S (at_site m))
seen_at S (on_channel i m p) = within (view_at S (on_channel i m p))

step_sees : (S : State) (e : Event) → step S e ≡ decide (seen_at S (place e)) e
unfolding step
step_sees S e = go (place e) refl
  where
    partly : (w : Place) → decide (view_at S w) e ≡ decide (within (view_at S w)) e
    partly w = unfold decide in judge_same (ranges (view_at S w).setting e) _ _ (judged-within (view_at S w) e)

    by : (s : ℕ) → place e ≡ of_session s → (b : Bool) → (S.session s).is_open ≡ b → decide (view_at S (of_session s)) e ≡ decide (cond b (within (view_at S (of_session s))) (alone S.net.setting (S.session s))) e
    by s d true z = partly (of_session s)
    by s d false z = unfold decide in judge_same (ranges S.net.setting e) _ _ (λ r. judged_alone (view_at S (of_session s)) e s d z)

    go : (w : Place) → place e ≡ w → decide (view_at S w) e ≡ decide (seen_at S w) e
    go (of_session s) d = by s d (S.session s).is_open refl
    go (at_site m) d = partly (at_site m)
    go (on_channel i m p) d = partly (on_channel i m p)

module _ (N M : Net) (m : ℕ) (a : SiteAlike N M m) where
  abbrev p' : ℕ → ℕ
  p' p = partition_of N.setting p

  sent_alike : (p j : ℕ) (b : Bool) → (T b → j < N.setting.sites) → cond b (length (N.chan m j (p' p))) 0 ≡ cond b (length (M.chan m j (p' p))) 0
  sent_alike p j true h = a.sent (p' p) j (part_is N.setting p) (h tt)
  sent_alike p j false h = refl

  within_alike : (x : Session) (l : List Msg) → within (look N x m l) ≡ within (look M x m l)
  within_alike x l = λ i. record {
    setting = a.setting i;
    session = x;
    clock = λ p. (a.clock (p' p) (part_is N.setting p) ∙ ap (λ d. M.clock m (partition_of d p)) a.setting) i;
    heard = λ p j. (a.heard (p' p) j (part_is N.setting p) ∙ ap (λ d. M.heard m (partition_of d p) j) a.setting) i;
    store = λ p. (a.store (p' p) (part_is N.setting p) ∙ ap (λ d. M.store m (partition_of d p)) a.setting) i;
    sent = λ p j. (sent_alike p j (ltb j N.setting.sites) (λ t. ltb_yes t) ∙ ap (λ d. cond (ltb j d.sites) (length (M.chan m j (partition_of d p))) 0) a.setting) i;
    front = l;
  }

seen_alike : (S R : State) (w : Place) → Alike S R w → seen_at S w ≡ seen_at R w
unfolding Alike
seen_alike S R (of_session s) a = by (S.session s).is_open a.2 ∙ ap (by_session R.net) a.0
  where
    x : Session
    x = S.session s

    by : (b : Bool) → (T b → SiteAlike S.net R.net x.site) → cond b (within (look S.net x x.site [])) (alone S.net.setting x) ≡ cond b (within (look R.net x x.site [])) (alone R.net.setting x)
    by true f = within_alike S.net R.net x.site (f tt) x []
    by false f = ap (λ d. alone d x) a.1
seen_alike S R (at_site m) a = within_alike S.net R.net m a closed []
seen_alike S R (on_channel i m p) a = within_alike S.net R.net m a.0 closed (S.net.chan i m p) ∙ ap (λ l. within (look R.net closed m l)) a.1

pub influenced : Influenced
influenced S R e a = step_sees S e ∙ ap (λ v. decide v e) (seen_alike S R (place e) a) ∙ sym (step_sees R e)

-- ---- a refusal has no changes

unfoldable pub Unserved : Answer → Type 0
Unserved Done = ⊥
Unserved (Stamped m t) = ⊥
Unserved (Value v) = ⊥
Unserved Nothing = ⊥
Unserved (Refused w) = Unit {0}

shown_is_served : (o : Option Rec) → Unserved (shown o) → ⊥
unfolding Unserved shown
shown_is_served none u = u
shown_is_served (some r) u = u

pub serve_is_served : (v : View) (e : Event) → Unserved (serve v e).says → ⊥
unfolding Unserved serve
serve_is_served v (OPEN s m) u = u
serve_is_served v (CLOSE s) u = u
serve_is_served v (CLOCK m p t) u = u
serve_is_served v (GET s k) u = shown_is_served _ u
serve_is_served v (PUT s k q l) u = u
serve_is_served v (BEGIN s p ks) u = u
serve_is_served v (READ s k) u = shown_is_served _ u
serve_is_served v (END s) u = u
serve_is_served v (BEAT m p) u = u
serve_is_served v (DELIVER i m p) u = u

pub refused_still : (S : State) (e : Event) (w : Refusal) → (step S e).says ≡ Refused w → (step S e).changes ≡ []
unfolding Unserved
refused_still S e w = step_elim S e (λ (o : Outcome). o.says ≡ Refused w → o.changes ≡ []) (λ n z. refl) (λ r t z. absurd (serve_is_served (view S e) e (rw z tt)))

pub untouched : Untouched
unfolding next apply_all
untouched S e w z = ap (λ cs. apply_all cs S) (refused_still S e w z)
