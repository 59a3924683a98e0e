-- Every step keeps the invariant. In order: the kinds of step (a session, the network, both for PUT), every event, and every list of events from a
-- fresh setup.
use Prim.Native.Nat.{ℕ, ◌≤◌, ◌<◌, max}
use native.Mathlib.Omega.{arith}
use mathlib.Core.Path.{◌≡◌, refl, sym, ap, subst}
use mathlib.Core.Logic.{◌⊎◌, inl, inr}
use mathlib.Core.Bool.{not}
use mathlib.Core.List.Memᴰ
use mathlib.Core.List.{List, [], ◌∷◌, ◌++◌}
use mathlib.Core.Option.{Option, some, none}
use lib.IntN.{ℤ}
use lib.Dec.{T}
use mir.Facts.{T_not, ltb_yes}
use Rattle.codec.proofs.Tests.{cond_elim}
use Rattle.vector.specs.Vec.{Vec, width, zeros, largest, larger, with_entry}
use Rattle.vector.proofs.Vec.{LeV, le-largest, with_entry_same, with_entry_up}
use Rattle.protocol.specs.Record.{Setting, partition_of, Id, Rec, Msg, Update, Heartbeat, stamp_in, records_in, of_key, fits_page, raised_by}
use Rattle.protocol.specs.Shelf.{found}
use Rattle.protocol.specs.State.{Net, Session, State, no_page, closed, opened, with_vec, with_page, setup}
use Rattle.protocol.specs.Event.{Event, OPEN, CLOSE, CLOCK, GET, PUT, BEGIN, READ, END, BEAT, DELIVER, Answer, shown}
use Rattle.protocol.specs.View.{view}
use Rattle.protocol.specs.Needs.{to_pass, put_ready, beat_sends, ranges, needs}
use Rattle.protocol.specs.Change.{SetSession, Publish, apply, apply_all, set_clock, publish, receive}
use Rattle.protocol.specs.Serve.{written, begun, read_on, taken, serve}
use Rattle.protocol.specs.Step.{step, next, after, log}
use Rattle.protocol.specs.Past.{◌∈◌, Write, Entry, History, served, shown_in, shown_on, with_pasts, tell, wrote, note_served, note, start, retell, history}
use Rattle.protocol.proofs.Shelf.{found_is}
use Rattle.protocol.proofs.Judge.{Met, step_elim}
use Rattle.protocol.proofs.Invariant.{Ascending, home, NetInv, Below, SessionInv, WriteInv, Told, Inv, Later}
use Rattle.protocol.proofs.Network.{publish_inv, publish_later, receive_inv, receive_later, clock_inv, clock_later}
use Rattle.protocol.proofs.Sessions.{all_up, all_nil, all_cons, session_frame, write_frame, set-session, get_session, begin_session, read-session, end_session}

-- ---- the kinds of step

-- one session changes, and the network does not
session_inv : (S : State) (h : History) (J : Inv S h) (s : ℕ) (xs : List Id) (es : List Entry) (y : Session) →
    SessionInv S.net J.all (record { past = xs; page = es }) y → Inv (apply (SetSession s y) S) (tell h s xs es)
unfolding apply tell
session_inv S h J s xs es y k = record {
  all = J.all;
  net = J.net;
  writes = J.writes;
  told = J.told;
  sessions = set-session (SessionInv S.net J.all) h.of S.session s (record { past = xs; page = es }) y J.sessions k;
}

-- the network changes, and no session does
network_inv : (S : State) (h : History) (J : Inv S h) (N : Net) → NetInv N J.all → Later S.net J.all N J.all → Inv (record { net = N; session = S.session }) h
network_inv S h J N I L = record {
  all = J.all;
  net = I;
  writes = J.writes;
  told = J.told;
  sessions = λ s. session_frame S.net J.all N J.all L (h.of s) (S.session s) (J.sessions s);
}

-- PUT: both. Its time is above the session's vector and above the node's own entry
module _ (S : State) (h : History) (J : Inv S h) (s k q : ℕ) (l : ℤ) (time : ℕ) (open-now : T (S.session s).is_open) (no-page : T (not (S.session s).page.is_open))
    (above-session : (i : ℕ) → i < width → (S.session s).vec i < time)
    (above-own : S.net.heard (S.session s).site (partition_of S.net.setting k) (S.session s).site < time) where
  abbrev putter : Session
  putter = S.session s

  abbrev put-rec : Rec
  put-rec = written putter k q l time

  abbrev put-vec : Vec
  put-vec = with_entry putter.vec putter.site time

  abbrev put-net : Net
  put-net = publish S.net putter.site (partition_of S.net.setting k) (Update put-rec)

  put_above : S.net.heard putter.site (partition_of S.net.setting k) putter.site < stamp_in (Update put-rec)
  unfolding stamp_in written
  put_above = above-own

  put_news : (r : Rec) → r ∈ records_in (Update put-rec) → (Update put-rec ≡ Update r) × (r.id.source ≡ putter.site) × (home S.net r ≡ partition_of S.net.setting k)
  unfolding records_in written
  put_news r m = let e = Memᴰ.eq_of_singleton m in (ap Update (sym e), ap (λ z. z.id.source) e, ap (λ z. partition_of S.net.setting z.id.key) e)

  put-site : putter.site < S.net.setting.sites
  put-site = (J.sessions s).here open-now

  put_real : putter.site < width
  put_real = let a = put-site in let b = J.net.few in omega arith

  put_up : LeV putter.vec put-vec
  put_up = with_entry_up putter.vec putter.site time (let a = above-session putter.site put_real in omega arith)

  put_later : Later S.net J.all put-net (put-rec ∷ J.all)
  unfolding records_in
  put_later = publish_later S.net J.all putter.site (partition_of S.net.setting k) (Update put-rec) J.net put-site put_above put_news

  put_inv : Inv (apply (SetSession s (with_vec putter put-vec)) (apply (Publish putter.site (partition_of S.net.setting k) (Update put-rec)) S)) (wrote h s put-rec.id q l)
  unfolding apply publish wrote records_in written
  put_inv = record {
    all = put-rec ∷ J.all;
    net = publish_inv S.net J.all putter.site (partition_of S.net.setting k) (Update put-rec) J.net put-site put_above put_news;
    writes = λ w m. writes w (Memᴰ.cases_cons m);
    told = λ r m. told r (Memᴰ.cases_cons m);
    sessions = set-session (SessionInv put-net (put-rec ∷ J.all)) h.of S.session s (record { past = put-rec.id ∷ (h.of s).past; page = (h.of s).page }) (with_vec putter put-vec)
        (λ i. session_frame S.net J.all put-net (put-rec ∷ J.all) put_later (h.of i) (S.session i) (J.sessions i))
        (record {
          here = λ t. put-site;
          past = all_cons (put-rec ∷ J.all) put-vec put-rec.id (h.of s).past new (all_up (put-rec ∷ J.all) putter.vec put-vec (h.of s).past put_up before.past);
          page = λ t. absurd (T_not putter.page.is_open t no-page);
          blank = before.blank;
        });
  }
    where
      before : SessionInv put-net (put-rec ∷ J.all) (h.of s) putter
      before = session_frame S.net J.all put-net (put-rec ∷ J.all) put_later (h.of s) putter (J.sessions s)

      new : Below (put-rec ∷ J.all) put-vec put-rec.id
      new = record {
        rec = put-rec;
        mem = Memᴰ.head refl;
        same = refl;
        real = put_real;
        heard = (let e = with_entry_same putter.vec putter.site time in omega arith);
        carried = put_up;
      }

      this : Write
      this = record { id = put-rec.id; quality = q; level = l; past = (h.of s).past }

      writes : (w : Write) → (w ≡ this) ⊎ (w ∈ h.writes) → WriteInv (put-rec ∷ J.all) w
      writes w (inl e) = subst (WriteInv (put-rec ∷ J.all)) (sym e) (record { rec = put-rec; mem = Memᴰ.head refl; same = refl; past = before.past })
      writes w (inr m) = write_frame S.net J.all put-net (put-rec ∷ J.all) put_later w (J.writes w m)

      told : (r : Rec) → (r ≡ put-rec) ⊎ (r ∈ J.all) → Told (this ∷ h.writes) r
      told r (inl e) = subst (Told (this ∷ h.writes)) (sym e) (record { write = this; mem = Memᴰ.head refl; same = refl; quality = refl; level = refl })
      told r (inr m) = let K = J.told r m in record { write = K.write; mem = Memᴰ.tail K.mem; same = K.same; quality = K.quality; level = K.level }

put_above_both : (v : Vec) (own clock : ℕ) → T (put_ready v own clock) → ((i : ℕ) → i < width → v i < clock) × (own < clock)
unfolding put_ready to_pass
put_above_both v own clock t =
    let a : max (largest v) own < clock = ltb_yes t in
    (λ i b. omega (arith, le-largest v i b), omega arith)

beat_inv : (S : State) (h : History) (J : Inv S h) (m p t : ℕ) → m < S.net.setting.sites → S.net.heard m p m < t → Inv (apply (Publish m p (Heartbeat t)) S) h
unfolding apply records_in stamp_in
beat_inv S h J m p t l u = network_inv S h J (publish S.net m p (Heartbeat t))
    (publish_inv S.net J.all m p (Heartbeat t) J.net l u (λ r n. absurd (Memᴰ.not-nil n)))
    (publish_later S.net J.all m p (Heartbeat t) J.net l u (λ r n. absurd (Memᴰ.not-nil n)))

deliver_inv : (S : State) (h : History) (J : Inv S h) (i m p : ℕ) (l : List Msg) → S.net.chan i m p ≡ l → Inv (apply_all (taken i m p l) S) h
unfolding apply apply_all taken
deliver_inv S h J i m p [] e = J
deliver_inv S h J i m p (x ∷ l) e = network_inv S h J (receive S.net i m p x) (receive_inv S.net J.all i m p x l J.net e) (receive_later S.net J.all i m p x l J.net e)

-- ---- every event

note-served : (P : History → Type 0) (h : History) (e : Event) (a : Answer) → T (served a) → P (note_served h e a) → P (note h e a)
unfolding note
note-served P h e a t k = cond_elim P (served a) (λ u. k) (λ u. absurd (T_not (served a) t u))

shown-served : (o : Option Rec) → T (served (shown o))
unfolding served shown
shown-served none = tt
shown-served (some r) = tt

serve_inv : (S : State) (h : History) → Inv S h → (e : Event) → Met (ranges S.net.setting e) → Met (needs (view S e) e) →
    Inv (apply_all (serve (view S e) e).changes S) (note h e (serve (view S e) e).says)
unfolding serve needs ranges apply_all note note_served served written
serve_inv S h J (OPEN s m) r t = session_inv S h J s [] [] (opened m)
    (unfold opened no_page in record { here = λ u. ltb_yes r.0; past = all_nil J.all zeros; page = λ f. absurd f; blank = λ f. refl })
serve_inv S h J (CLOSE s) r t = session_inv S h J s [] [] closed
    (unfold closed no_page in record { here = λ f. absurd f; past = all_nil J.all zeros; page = λ f. absurd f; blank = λ f. refl })
serve_inv S h J (CLOCK m p u) r t = unfold apply in network_inv S h J (set_clock S.net m p u) (clock_inv S.net J.all m p u J.net) (clock_later S.net J.all m p u)
serve_inv S h J (GET s k) r t =
    let N = S.net in
    let x = S.session s in
    let l = N.store x.site (partition_of N.setting k) in
    let o = found N.setting (of_key k) l in
    let y = with_vec x (raised_by x.vec o) in
    note-served (Inv (apply (SetSession s y) S)) h (GET s k) (shown o) (shown-served o)
    (session_inv S h J s (with_pasts h.writes (shown_in k (shown o)) ++ (h.of s).past) (h.of s).page y
    (get_session N J.all J.net (h.of s) x (J.sessions s) t.0 h.writes J.writes k t.1.0 o (found_is N.setting (of_key k) l)))
serve_inv S h J (PUT s k q l) r t =
    let x = S.session s in
    let p = partition_of S.net.setting k in
    let c = S.net.clock x.site p in
    let f = put_above_both x.vec (S.net.heard x.site p x.site) c t.1.1.1.1.0 in
    put_inv S h J s k q l c t.0 t.1.0 f.0 f.1
serve_inv S h J (BEGIN s p ks) r t =
    let x = S.session s in
    let v = S.net.heard x.site p in
    session_inv S h J s (h.of s).past [] (with_page x (begun v x.vec ks))
    (begin_session S.net J.all J.net (h.of s) x (J.sessions s) t.0 v ks)
serve_inv S h J (READ s k) r t =
    let N = S.net in
    let x = S.session s in
    let l = N.store x.site (partition_of N.setting k) in
    let o = found N.setting (fits_page k x.page.vec) l in
    let y = with_page x (read_on x.page k o) in
    note-served (Inv (apply (SetSession s y) S)) h (READ s k) (shown o) (shown-served o)
    (session_inv S h J s (h.of s).past (record { key = k; says = shown o } ∷ (h.of s).page) y
    (read-session N J.all J.net (h.of s) x (J.sessions s) t.0 k t.1.1.1.0 t.1.0 o (found_is N.setting (fits_page k x.page.vec) l)))
serve_inv S h J (END s) r t =
    let x = S.session s in
    session_inv S h J s (with_pasts h.writes (shown_on (h.of s).page) ++ (h.of s).past) [] (with_page (with_vec x (larger x.vec x.page.gathered)) no_page)
    (end_session S.net J.all J.net (h.of s) x (J.sessions s) t.0 h.writes J.writes t.1.0)
serve_inv S h J (BEAT m p) r t = cond_elim (λ cs. Inv (apply_all cs S) h) (beat_sends (S.net.heard m p m) (S.net.clock m p))
    (λ u. beat_inv S h J m p (S.net.clock m p) (ltb_yes r.0) (unfold beat_sends in ltb_yes u)) (λ u. J)
serve_inv S h J (DELIVER i m p) r t = deliver_inv S h J i m p (S.net.chan i m p) refl

step_inv : (S : State) (h : History) (e : Event) → Inv S h → Inv (next S e) (note h e (step S e).says)
unfolding next note served apply_all
step_inv S h e J = step_elim S e (λ o. Inv (apply_all o.changes S) (note h e o.says)) (λ w. J) (serve_inv S h J e)

-- ---- every list of events

setup_inv : (c : Setting) → c.sites ≤ width → Inv (setup c) start
unfolding setup start closed no_page Ascending
setup_inv c l = record {
  all = [];
  net = record {
    few = l;
    real = λ r m. absurd (Memᴰ.not-nil m);
    own = λ r m. absurd (Memᴰ.not-nil m);
    bound = λ r m. absurd (Memᴰ.not-nil m);
    order = λ i m p. omega arith;
    known = λ r m p k. absurd (Memᴰ.not-nil k);
    sent = λ r i m p k. absurd (Memᴰ.not-nil k);
    once = λ r q m. absurd (Memᴰ.not-nil m);
  };
  writes = λ w m. absurd (Memᴰ.not-nil m);
  told = λ r m. absurd (Memᴰ.not-nil m);
  sessions = λ s. record { here = λ f. absurd f; past = all_nil [] zeros; page = λ f. absurd f; blank = λ t. refl };
}

pub after_inv : (S : State) (h : History) (es : List Event) → Inv S h → Inv (after S es) (retell h (log S es))
unfolding after retell log
after_inv S h [] J = J
after_inv S h (e ∷ es) J = after_inv (next S e) (note h e (step S e).says) es (step_inv S h e J)

pub run_inv : (c : Setting) → c.sites ≤ width → (es : List Event) → Inv (after (setup c) es) (history (log (setup c) es))
unfolding history
run_inv c l es = after_inv (setup c) start es (setup_inv c l)
