-- Conservation: each event keeps the balance of each channel, and so does any list of events.
use Prim.Native.Nat.{ℕ, ◌+◌, ◌<◌}
use native.Mathlib.Omega.{arith}
use mathlib.Core.Path.{◌≡◌, refl, sym, subst, ◌∙◌}
use mathlib.Core.Logic.{◌≢◌}
use mathlib.Core.Bool.{Bool, true, false, cond, not, ◌&&◌}
use mathlib.Core.List.{List, [], ◌∷◌, ◌++◌, tail, flat_map}
use lib.Dec.{T, ltb, eqb, lt→ltb}
use mir.Facts.{and_yes, eqb_yes}
use Rattle.codec.proofs.Tests.{cond_elim}
use Rattle.protocol.specs.Record.{Setting, partition_of, Id, Rec, Msg, Update, Heartbeat, records_in}
use Rattle.protocol.specs.State.{Net, State, setup}
use Rattle.protocol.specs.Event.{Event, OPEN, CLOSE, CLOCK, GET, PUT, BEGIN, READ, END, BEAT, DELIVER, Refusal, Refused}
use Rattle.protocol.specs.View.{place, view}
use Rattle.protocol.specs.Needs.{beat_sends, front_updates}
use Rattle.protocol.specs.Change.{Change, at, set_clock, publish, receive, apply, apply_all}
use Rattle.protocol.specs.Serve.{Outcome, ◌and◌, written, taken, serve}
use Rattle.protocol.specs.Step.{step, next, after, log}
use Rattle.protocol.specs.Past.{Entry, History, served, tell, wrote, note_served, note, start, retell, history}
use Rattle.protocol.specs.Count.{waiting, written_at, taken_at, delivered}
use Rattle.protocol.specs.Promises.{Conserved}
use Rattle.protocol.proofs.Judge.{step_elim}
use Rattle.protocol.proofs.Setting.{next-setting}
use Rattle.protocol.proofs.Nodes.{at_yes}

-- ---- what waits in a channel

waiting_update : (l : List Msg) (r : Rec) → waiting (l ++ (Update r ∷ [])) ≡ waiting l + 1
unfolding waiting records_in flat_map
waiting_update [] r = refl
waiting_update (Update q ∷ l) r = let k = waiting_update l r in omega arith
waiting_update (Heartbeat t ∷ l) r = waiting_update l r

waiting-beat : (l : List Msg) (t : ℕ) → waiting (l ++ (Heartbeat t ∷ [])) ≡ waiting l
unfolding waiting records_in flat_map
waiting-beat [] t = refl
waiting-beat (Update q ∷ l) t = let k = waiting-beat l t in omega arith
waiting-beat (Heartbeat u ∷ l) t = waiting-beat l t

waiting-front : (x : Msg) (l : List Msg) → waiting l + cond (front_updates (x ∷ l)) 1 0 ≡ waiting (x ∷ l)
unfolding waiting records_in flat_map front_updates
waiting-front (Update r) l = omega arith
waiting-front (Heartbeat t) l = omega arith

-- ---- one event: what waits and what is taken off, with what was written before, is what waited before with what is written now

abbrev Balance : State → History → (i m p : ℕ) → Event → Outcome → Type 0
Balance S h i m p e o =
    waiting ((apply_all o.changes S).net.chan i m p) + cond (served o.says && taken_at i m p S.net (place e)) 1 0 + written_at S.net.setting i p h.writes
    ≡ waiting (S.net.chan i m p) + written_at S.net.setting i p (note h e o.says).writes

module _ (i m p : ℕ) (apart : i ≢ m) where
  put_balance : (N : Net) (r : Rec) → m < N.setting.sites →
      waiting ((publish N r.id.source (partition_of N.setting r.id.key) (Update r)).chan i m p) + 0 ≡ waiting (N.chan i m p) + cond (at r.id.source (partition_of N.setting r.id.key) i p) 1 0
  unfolding publish
  put_balance N r l = go (at j q i p) (ltb m N.setting.sites) (eqb m j) (lt→ltb m N.setting.sites l)
      (λ t u. let e : m ≡ j = eqb_yes u in apart ((at_yes j q i p t).0 ∙ sym e))
    where
      j : ℕ
      j = r.id.source

      q : ℕ
      q = partition_of N.setting r.id.key

      go : (a b c : Bool) → T b → (T a → T c → ⊥) →
          waiting (cond (a && (b && not c)) (N.chan i m p ++ (Update r ∷ [])) (N.chan i m p)) + 0 ≡ waiting (N.chan i m p) + cond a 1 0
      go false b c h k = refl
      go true true true h k = absurd (k tt tt)
      go true true false h k = let z = waiting_update (N.chan i m p) r in omega arith
      go true false c h k = absurd h

  beat_balance : (N : Net) (j q t : ℕ) → waiting ((publish N j q (Heartbeat t)).chan i m p) ≡ waiting (N.chan i m p)
  unfolding publish
  beat_balance N j q t =
      cond_elim (λ l. waiting l ≡ waiting (N.chan i m p)) (at j q i p && (ltb m N.setting.sites && not (eqb m j))) (λ u. waiting-beat (N.chan i m p) t) (λ u. refl)

  take_balance : (S : State) (h j q : ℕ) (l : List Msg) → S.net.chan h j q ≡ l →
      waiting ((apply_all (taken h j q l) S).net.chan i m p) + cond ((at j q m p && eqb i h) && front_updates l) 1 0 ≡ waiting (S.net.chan i m p) + 0
  unfolding receive apply apply_all taken
  take_balance S h j q [] e = unfold front_updates in cond_elim (λ n. waiting (S.net.chan i m p) + n ≡ waiting (S.net.chan i m p) + 0) ((at j q m p && eqb i h) && false) (λ t. absurd (and_yes (at j q m p && eqb i h) false t).1) (λ t. refl)
  take_balance S h j q (x ∷ l) e = go (at j q m p && eqb i h) same
    where
      same : T (at j q m p && eqb i h) → S.net.chan i m p ≡ x ∷ l
      same t =
          let k = and_yes (at j q m p) (eqb i h) t in
          let a = at_yes j q m p k.0 in
          let b : i ≡ h = eqb_yes k.1 in
          rw (b, a.0, a.1) e

      go : (b : Bool) → (T b → S.net.chan i m p ≡ x ∷ l) →
          waiting (cond b (tail (S.net.chan i m p)) (S.net.chan i m p)) + cond (b && front_updates (x ∷ l)) 1 0 ≡ waiting (S.net.chan i m p) + 0
      go true f = rw (f tt) (let z = waiting-front x l in omega arith)
      go false f = refl

  -- a read, served or not, writes nothing
  read_balance : (n : ℕ) (c : Setting) (h : History) (s : ℕ) (ys : List Id) (es : List Entry) (b : Bool) →
      n + cond (b && false) 1 0 + written_at c i p h.writes ≡ n + written_at c i p (cond b (tell h s ys es) h).writes
  unfolding tell
  read_balance n c h s ys es true = omega arith
  read_balance n c h s ys es false = omega arith

  serve_balance : (S : State) (h : History) (e : Event) → m < S.net.setting.sites → Balance S h i m p e (serve (view S e) e)
  unfolding serve apply apply_all set_clock taken_at served written note note_served tell wrote written_at
  serve_balance S h (OPEN s j) l = omega arith
  serve_balance S h (CLOSE s) l = omega arith
  serve_balance S h (CLOCK j q t) l = omega arith
  serve_balance S h (GET s k) l = read_balance (waiting (S.net.chan i m p)) S.net.setting h s _ _ (served (serve (view S (GET s k)) (GET s k)).says)
  serve_balance S h (PUT s k q v) l =
      let z = put_balance S.net (written (S.session s) k q v (S.net.clock (S.session s).site (partition_of S.net.setting k))) l in
      omega arith
  serve_balance S h (BEGIN s q ks) l = omega arith
  serve_balance S h (READ s k) l = read_balance (waiting (S.net.chan i m p)) S.net.setting h s _ _ (served (serve (view S (READ s k)) (READ s k)).says)
  serve_balance S h (END s) l = omega arith
  serve_balance S h (BEAT j q) l = cond_elim
      (λ (cs : List Change). waiting ((apply_all cs S).net.chan i m p) + 0 + written_at S.net.setting i p h.writes ≡ waiting (S.net.chan i m p) + written_at S.net.setting i p h.writes)
      (beat_sends (S.net.heard j q j) (S.net.clock j q)) (λ t. let z = beat_balance S.net j q (S.net.clock j q) in omega arith) (λ t. omega arith)
  serve_balance S h (DELIVER g j q) l = let z = take_balance S g j q (S.net.chan g j q) refl in omega arith

  refused_balance : (S : State) (h : History) (e : Event) (w : Refusal) → Balance S h i m p e (Refused w and [])
  unfolding served apply_all note
  refused_balance S h e w = omega arith

  step_balance : (S : State) (h : History) (e : Event) → m < S.net.setting.sites →
      waiting ((next S e).net.chan i m p) + cond (served (step S e).says && taken_at i m p S.net (place e)) 1 0 + written_at S.net.setting i p h.writes
      ≡ waiting (S.net.chan i m p) + written_at S.net.setting i p (note h e (step S e).says).writes
  unfolding next
  step_balance S h e l = step_elim S e (Balance S h i m p e) (refused_balance S h e) (λ r t. serve_balance S h e l)

  -- ---- many

  run_balance : (S : State) (h : History) (es : List Event) → m < S.net.setting.sites →
      waiting ((after S es).net.chan i m p) + delivered i m p S es + written_at S.net.setting i p h.writes
      ≡ waiting (S.net.chan i m p) + written_at S.net.setting i p (retell h (log S es)).writes
  unfolding after delivered log retell
  run_balance S h [] l = omega arith
  run_balance S h (e ∷ es) l =
      let a = step_balance S h e l in
      let g = note h e (step S e).says in
      let b = subst
      (λ c. waiting ((after (next S e) es).net.chan i m p) + delivered i m p (next S e) es + written_at c i p g.writes ≡ waiting ((next S e).net.chan i m p) + written_at c i p (retell g (log (next S e) es)).writes)
      (next-setting S e) (run_balance (next S e) g es (rw (next-setting S e) l)) in
      omega arith

pub conserved : Conserved
unfolding setup waiting flat_map history start written_at
conserved c es i m p d l = let a = run_balance i m p d (setup c) start es l in omega arith
