-- What a table says after a change is what the change makes of what it said. In order: what is read of a node or a channel that changed, each of the four
-- changes but for the kept places (`store-..`: what each node then stores), then the laws for any change and for many. That changes keep bytes is in Bytes; a fresh table is in Fresh.
use Prim.Native.Nat.{ℕ, ◌-◌, ◌≤◌, ◌<◌}
use native.Mathlib.Omega.{arith}
use mathlib.Core.Path.{◌≡◌, refl, sym, ap, ◌∙◌}
use mathlib.Core.Bool.{Bool, true, false, cond, not, ◌&&◌}
use mathlib.Core.List.{List, [], ◌∷◌, ◌++◌, tail}
use lib.Dec.{T, ltb, eqb, lt→ltb}
use lib.ListN.{length}
use mir.Facts.{T_not, and_yes, yes_and, ltb_yes, eqb_yes, eqb_no, no_eqb}
use Rattle.codec.specs.Le.{load}
use Rattle.codec.specs.Part.{Keeps}
use Rattle.codec.proofs.Tests.{cond_no, cond_both}
use Rattle.vector.specs.Vec.{with_entry, at_least}
use Rattle.protocol.specs.Record.{Msg, stamp_in, records_in}
use Rattle.protocol.specs.Shelf.{shelve}
use Rattle.protocol.specs.State.{Session}
use Rattle.protocol.specs.Change.{Change, SetSession, SetClock, Publish, Receive, upd, at, set_clock, publish, receive, apply, apply_all}
use Rattle.protocol.proofs.Nodes.{at_yes, at_elim}
use Rattle.parts.specs.Node.{clock_in, heard_in, store_in, clock_set, published, received}
use Rattle.parts.specs.Channel.{queue_in, pushed, popped}
use Rattle.parts.specs.Session.{session_in, put_session}
use Rattle.parts.proofs.Lengths.{clock_set_keeps, received_keeps, popped_keeps, put_session_keeps}
use Rattle.parts.proofs.NodeBytes.{clock-clock_set, heard-clock_set, store-clock_set, clock-published, heard-published, store-published, clock-received, heard-received, store-received}
use Rattle.parts.proofs.ChannelBytes.{queue_pushed, queue_popped}
use Rattle.parts.proofs.SessionBytes.{session-put_session}
use Rattle.table.specs.Parts.{Long, place_of, session_of, site_of, node_of, channel_of, on_site, on_node, on_channel}
use Rattle.table.specs.Decode.{setting_in, decode}
use Rattle.table.specs.Put.{published_on, put_core, put_change, put_changes}
use Rattle.table.specs.Fits.{FitsPublish, FitsReceive, Fits, FitsAll}
use Rattle.table.proofs.Parts.{long_still, length-session, length-on_session, session-on_session, site-on_session, load-on_session, length-on_site, session-on_site, load-on_site, bytes-node_of, bytes-channel_of, length-node_of, length-channel_of}
use Rattle.table.proofs.Changes.{sent, sent_by, sent_by_yes, sent_sent_by, taken, taken_from, taken_taken_from, place-lt, on_node_keeps, node_at_node, channel_at_node, on_channel_keeps, node_at_channel, channel_at_channel, published_on_keeps, node_at_publish, channel_at_publish}
use Rattle.table.proofs.KeptPlaces.{state_ext, length_anew, setting_anew, decode_anew, after_elim}

-- ---- choices, and what is read of a node or a channel that changed

cond-read {ℓ κ} : {A : Type ℓ} {B : Type κ} (X : A → B) (b : Bool) (x y : A) (u : B) → (T b → X x ≡ u) → X (cond b x y) ≡ cond b u (X y)
cond-read X true x y u e = e tt
cond-read X false x y u e = refl

cond-kept {ℓ κ} : {A : Type ℓ} {B : Type κ} (X : A → B) (b : Bool) (x y : A) → (T b → X x ≡ X y) → X (cond b x y) ≡ X y
cond-kept X true x y e = e tt
cond-kept X false x y e = refl

-- what X reads of each node after f was done to node (m, p)
module _ (t t' : List ℕ) (m p : ℕ) (f : List ℕ → List ℕ) (step : (j q : ℕ) → node_of (site_of t' j) q ≡ cond (at m p j q) (f (node_of (site_of t j) q)) (node_of (site_of t j) q)) where
  node_changed : {A : Type 0} (X : List ℕ → A) (U : ℕ → ℕ → A) → X (f (node_of (site_of t m) p)) ≡ U m p → (j q : ℕ) → X (node_of (site_of t' j) q) ≡ cond (at m p j q) (U j q) (X (node_of (site_of t j) q))
  node_changed X U e j q =
      ap X (step j q)
      ∙ cond-read X (at m p j q) (f (node_of (site_of t j) q)) (node_of (site_of t j) q) (U j q) (at_elim (λ a b. X (f (node_of (site_of t a) b)) ≡ U a b) m p j q e)

  node_kept : {A : Type 0} (X : List ℕ → A) → X (f (node_of (site_of t m) p)) ≡ X (node_of (site_of t m) p) → (j q : ℕ) → X (node_of (site_of t' j) q) ≡ X (node_of (site_of t j) q)
  node_kept X e j q =
      ap X (step j q)
      ∙ cond-kept X (at m p j q) (f (node_of (site_of t j) q)) (node_of (site_of t j) q) (at_elim (λ a b. X (f (node_of (site_of t a) b)) ≡ X (node_of (site_of t a) b)) m p j q e)

-- there is a channel from i to j
abbrev is_way : (i j : ℕ) → Bool
is_way i j = ltb j 4 && not (eqb i j)

way_yes : (i j : ℕ) → T (is_way i j) → (j < 4) × (i ≡ j → ⊥)
way_yes i j b = let both = and_yes (ltb j 4) (not (eqb i j)) b in (ltb_yes both.0, eqb_no both.1)

yes_way : (i j : ℕ) → j < 4 → (i ≡ j → ⊥) → T (is_way i j)
yes_way i j h d = yes_and (ltb j 4) (not (eqb i j)) (lt→ltb j 4 h) (no_eqb d)

chan-kept : (t t' : List ℕ) → ((i q e : ℕ) → channel_of (site_of t' i) q e ≡ channel_of (site_of t i) q e) → (i j q : ℕ) → (decode t').net.chan i j q ≡ (decode t).net.chan i j q
unfolding decode
chan-kept t t' step i j q = ap (λ c. cond (is_way i j) (queue_in c) []) (step i q (place_of i j))

-- f was done to the channels where `here` holds, which does g to the queues where `there` holds
module _ (t t' : List ℕ) (f : List ℕ → List ℕ) (g : List Msg → List Msg) (here there : ℕ → ℕ → ℕ → Bool)
    (step : (i q e : ℕ) → channel_of (site_of t' i) q e ≡ cond (here i q e) (f (channel_of (site_of t i) q e)) (channel_of (site_of t i) q e))
    (does : (i q e : ℕ) → T (here i q e) → queue_in (f (channel_of (site_of t i) q e)) ≡ g (queue_in (channel_of (site_of t i) q e)))
    (agree : (i j q : ℕ) → T (is_way i j) → here i q (place_of i j) ≡ there i j q)
    (none : (i j q : ℕ) → T (not (is_way i j)) → [] ≡ cond (there i j q) (g []) []) where
  chan_changed : (i j q : ℕ) → (decode t').net.chan i j q ≡ cond (there i j q) (g ((decode t).net.chan i j q)) ((decode t).net.chan i j q)
  unfolding decode
  chan_changed i j q = go (is_way i j) (agree i j q) (none i j q)
    where
      go : (b : Bool) → (T b → here i q (place_of i j) ≡ there i j q) → (T (not b) → [] ≡ cond (there i j q) (g []) [])
          → cond b (queue_in (channel_of (site_of t' i) q (place_of i j))) [] ≡ cond (there i j q) (g (cond b (queue_in (channel_of (site_of t i) q (place_of i j))) [])) (cond b (queue_in (channel_of (site_of t i) q (place_of i j))) [])
      go true a n =
          let c = channel_of (site_of t i) q (place_of i j) in
          ap queue_in (step i q (place_of i j))
          ∙ cond-read queue_in (here i q (place_of i j)) (f c) c (g (queue_in c)) (does i q (place_of i j))
          ∙ ap (λ b. cond b (g (queue_in c)) (queue_in c)) (a tt)
      go false a n = n tt

-- ---- what no change of site m touches

module _ (t : List ℕ) (m : ℕ) (f : List ℕ → List ℕ) (l : Long t) (h : m < 4) (keeps : Keeps 13056 f) where
  setting-site : setting_in (on_site m f t) ≡ setting_in t
  setting-site = λ z. record { sites = load-on_site t m f l h keeps 1 0 (omega arith) z; partitions = load-on_site t m f l h keeps 1 1 (omega arith) z }

  sessions_site : (s : ℕ) → session_in (session_of (on_site m f t) s) ≡ session_in (session_of t s)
  sessions_site s = ap session_in (session-on_site t m f l h keeps s)

-- ---- a session is set

module _ (s : ℕ) (x : Session) (t : List ℕ) (l : Long t) (fit : Fits (SetSession s x) t) where
  length_set_session : length (put_core (SetSession s x) t) ≡ length t
  unfolding put_core
  length_set_session = length-on_session t s (put_session x) l fit.0 (put_session_keeps x)

  setting_set_session : setting_in (put_core (SetSession s x) t) ≡ setting_in t
  unfolding put_core
  setting_set_session = λ z. record {
    sites = load-on_session t s (put_session x) l fit.0 (put_session_keeps x) 1 0 (omega arith) z;
    partitions = load-on_session t s (put_session x) l fit.0 (put_session_keeps x) 1 1 (omega arith) z;
  }

  site_set_session : (m : ℕ) → site_of (put_core (SetSession s x) t) m ≡ site_of t m
  unfolding put_core
  site_set_session m = site-on_session t s (put_session x) l fit.0 (put_session_keeps x) m

  session_set_session : (r : ℕ) → session_in (session_of (put_core (SetSession s x) t) r) ≡ upd (λ i. session_in (session_of t i)) s x r
  unfolding put_core upd
  session_set_session r =
      ap session_in (session-on_session t s (put_session x) l fit.0 (put_session_keeps x) r)
      ∙ cond-read session_in (eqb r s) (put_session x (session_of t r)) (session_of t r) x
      (λ e. let q : r ≡ s = eqb_yes e in session-put_session x (session_of t r) (length-session t r l (omega (arith, fit.0))) fit.1)

  pub store_set_session : (m p : ℕ) → store_in (node_of (site_of (put_core (SetSession s x) t) m) p) ≡ store_in (node_of (site_of t m) p)
  store_set_session m p = ap (λ b. store_in (node_of b p)) (site_set_session m)

  decode_set_session : decode (put_core (SetSession s x) t) ≡ apply (SetSession s x) (decode t)
  unfolding decode apply
  decode_set_session =
      let u = put_core (SetSession s x) t in
      state_ext (decode u) (apply (SetSession s x) (decode t))
      setting_set_session
      (λ m p. ap (λ b. clock_in (node_of b p)) (site_set_session m))
      (λ m p. ap (λ b. heard_in (node_of b p)) (site_set_session m))
      store_set_session
      (chan-kept t u (λ i q e. ap (λ b. channel_of b q e) (site_set_session i)))
      session_set_session

-- ---- a clock is set

module _ (m p c : ℕ) (t : List ℕ) (l : Long t) (fit : Fits (SetClock m p c) t) where
  keeps_set_clock : Keeps 13056 (on_node p (clock_set c))
  keeps_set_clock = on_node_keeps t m p (clock_set c) l fit.0 fit.1 (clock_set_keeps c)

  length-set_clock : length (put_core (SetClock m p c) t) ≡ length t
  unfolding put_core
  length-set_clock = length-on_site t m (on_node p (clock_set c)) l fit.0 keeps_set_clock

  setting-set_clock : setting_in (put_core (SetClock m p c) t) ≡ setting_in t
  unfolding put_core
  setting-set_clock = setting-site t m (on_node p (clock_set c)) l fit.0 keeps_set_clock

  node_set_clock : (j q : ℕ) → node_of (site_of (put_core (SetClock m p c) t) j) q ≡ cond (at m p j q) (clock_set c (node_of (site_of t j) q)) (node_of (site_of t j) q)
  unfolding put_core
  node_set_clock = node_at_node t m p (clock_set c) l fit.0 fit.1 (clock_set_keeps c)

  pub store-set_clock : (j q : ℕ) → store_in (node_of (site_of (put_core (SetClock m p c) t) j) q) ≡ store_in (node_of (site_of t j) q)
  store-set_clock = node_kept t (put_core (SetClock m p c) t) m p (clock_set c) node_set_clock store_in (store-clock_set c (node_of (site_of t m) p))

  decode-set_clock : decode (put_core (SetClock m p c) t) ≡ apply (SetClock m p c) (decode t)
  unfolding decode apply set_clock put_core
  decode-set_clock =
      let u = put_core (SetClock m p c) t in
      let n = node_of (site_of t m) p in
      state_ext (decode u) (apply (SetClock m p c) (decode t))
      setting-set_clock
      (node_changed t u m p (clock_set c) node_set_clock clock_in (λ j q. c) (clock-clock_set c n (length-node_of t m p l fit.0 fit.1) fit.2))
      (node_kept t u m p (clock_set c) node_set_clock heard_in (heard-clock_set c n))
      store-set_clock
      (chan-kept t u (channel_at_node t m p (clock_set c) l fit.0 fit.1 (clock_set_keeps c)))
      (sessions_site t m (on_node p (clock_set c)) l fit.0 keeps_set_clock)

-- ---- a node publishes

module _ (m p : ℕ) (x : Msg) (t : List ℕ) (l : Long t) (fit : FitsPublish m p x t) where
  few : load 1 t 0 - 1 ≤ 3
  few = omega (arith, fit.sites)

  there : m < 4
  there = omega (arith, fit.site, fit.sites)

  keeps_publish : Keeps 13056 (published_on (load 1 t 0 - 1) m p x)
  keeps_publish = published_on_keeps t (load 1 t 0 - 1) m p x l there fit.partition few

  length-publish : length (put_core (Publish m p x) t) ≡ length t
  unfolding put_core
  length-publish = length-on_site t m (published_on (load 1 t 0 - 1) m p x) l there keeps_publish

  setting-publish : setting_in (put_core (Publish m p x) t) ≡ setting_in t
  unfolding put_core
  setting-publish = setting-site t m (published_on (load 1 t 0 - 1) m p x) l there keeps_publish

  sends : (i q e : ℕ) → T (sent (load 1 t 0) m p i q e) → queue_in (pushed m x (channel_of (site_of t i) q e)) ≡ queue_in (channel_of (site_of t i) q e) ++ (x ∷ [])
  sends i q e b =
      let both = and_yes (at m p i q) (ltb e (load 1 t 0 - 1)) b in
      let g : e < load 1 t 0 - 1 = ltb_yes both.1 in
      at_elim (λ j r. queue_in (pushed m x (channel_of (site_of t j) r e)) ≡ queue_in (channel_of (site_of t j) r e) ++ (x ∷ [])) m p i q
      (queue_pushed m x (channel_of (site_of t m) p e) (length-channel_of t m p l there fit.partition e (omega (arith, few))) (omega (arith, there)) fit.msg (fit.ways e g))
      both.0

  sends_none : (i j q : ℕ) → T (not (is_way i j)) → [] ≡ cond (sent_by (load 1 t 0) m p i j q) ([] ++ (x ∷ [])) []
  sends_none i j q w =
      cond_no (sent_by (load 1 t 0) m p i j q) (x ∷ []) []
      (λ b.
      let all = sent_by_yes (load 1 t 0) m p i j q b in
      T_not (is_way i j) (yes_way i j (omega (arith, fit.sites)) (λ e. all.3 (omega arith))) w)

  node_publish : (j q : ℕ) → node_of (site_of (put_core (Publish m p x) t) j) q ≡ cond (at m p j q) (published m x (node_of (site_of t j) q)) (node_of (site_of t j) q)
  unfolding put_core
  node_publish = node_at_publish t (load 1 t 0 - 1) m p x l there fit.partition few

  pub store-publish : (j q : ℕ) → store_in (node_of (site_of (put_core (Publish m p x) t) j) q) ≡ cond (at m p j q) (store_in (node_of (site_of t j) q) ++ records_in x) (store_in (node_of (site_of t j) q))
  store-publish =
      node_changed t (put_core (Publish m p x) t) m p (published m x) node_publish store_in (λ j q. store_in (node_of (site_of t j) q) ++ records_in x)
      (store-published m x (node_of (site_of t m) p) (length-node_of t m p l there fit.partition) there fit.msg fit.room)

  decode-publish : decode (put_core (Publish m p x) t) ≡ apply (Publish m p x) (decode t)
  unfolding decode apply publish shelve put_core
  decode-publish =
      let u = put_core (Publish m p x) t in
      let n = node_of (site_of t m) p in
      let long = length-node_of t m p l there fit.partition in
      state_ext (decode u) (apply (Publish m p x) (decode t))
      setting-publish
      (node_kept t u m p (published m x) node_publish clock_in (clock-published m x n long there))
      (node_changed t u m p (published m x) node_publish heard_in (λ j q. with_entry (heard_in (node_of (site_of t j) q)) m (stamp_in x)) (heard-published m x n long there fit.msg))
      store-publish
      (chan_changed t u (pushed m x) (λ c. c ++ (x ∷ [])) (sent (load 1 t 0) m p) (sent_by (load 1 t 0) m p)
      (channel_at_publish t (load 1 t 0 - 1) m p x l there fit.partition few) sends (λ i j q w. sent_sent_by (load 1 t 0) m p i j q fit.site (way_yes i j w).1) sends_none)
      (sessions_site t m (published_on (load 1 t 0 - 1) m p x) l there keeps_publish)

-- ---- a node receives: first it has the message, then the message leaves the channel

module _ (i m p : ℕ) (x : Msg) (t : List ℕ) (l : Long t) (fit : FitsReceive i m p x t) where
  near : place_of i m < 3
  near = place-lt 4 i m fit.source fit.site fit.other

  keeps_node : Keeps 13056 (on_node p (received i x))
  keeps_node = on_node_keeps t m p (received i x) l fit.site fit.partition (received_keeps i x)

  length_node : length (on_site m (on_node p (received i x)) t) ≡ length t
  length_node = length-on_site t m (on_node p (received i x)) l fit.site keeps_node

  long_node : Long (on_site m (on_node p (received i x)) t)
  long_node = long_still t (on_site m (on_node p (received i x)) t) length_node l

  keeps_channel : Keeps 13056 (on_channel p (place_of i m) popped)
  keeps_channel = on_channel_keeps (on_site m (on_node p (received i x)) t) i p (place_of i m) popped long_node fit.source fit.partition near popped_keeps

  length-receive : length (put_core (Receive i m p x) t) ≡ length t
  unfolding put_core
  length-receive =
      length-on_site (on_site m (on_node p (received i x)) t) i (on_channel p (place_of i m) popped) long_node fit.source keeps_channel ∙ length_node

  setting-receive : setting_in (put_core (Receive i m p x) t) ≡ setting_in t
  unfolding put_core
  setting-receive =
      setting-site (on_site m (on_node p (received i x)) t) i (on_channel p (place_of i m) popped) long_node fit.source keeps_channel
      ∙ setting-site t m (on_node p (received i x)) l fit.site keeps_node

  session-receive : (s : ℕ) → session_in (session_of (put_core (Receive i m p x) t) s) ≡ session_in (session_of t s)
  unfolding put_core
  session-receive s =
      sessions_site (on_site m (on_node p (received i x)) t) i (on_channel p (place_of i m) popped) long_node fit.source keeps_channel s
      ∙ sessions_site t m (on_node p (received i x)) l fit.site keeps_node s

  node_receive : (j q : ℕ) → node_of (site_of (put_core (Receive i m p x) t) j) q ≡ cond (at m p j q) (received i x (node_of (site_of t j) q)) (node_of (site_of t j) q)
  unfolding put_core
  node_receive j q =
      node_at_channel (on_site m (on_node p (received i x)) t) i p (place_of i m) popped long_node fit.source fit.partition near popped_keeps j q
      ∙ node_at_node t m p (received i x) l fit.site fit.partition (received_keeps i x) j q

  channel_receive : (h q e : ℕ) → channel_of (site_of (put_core (Receive i m p x) t) h) q e ≡ cond (taken i m p h q e) (popped (channel_of (site_of t h) q e)) (channel_of (site_of t h) q e)
  unfolding put_core
  channel_receive h q e =
      channel_at_channel (on_site m (on_node p (received i x)) t) i p (place_of i m) popped long_node fit.source fit.partition near popped_keeps h q e
      ∙ ap (λ c. cond (taken i m p h q e) (popped c) c) (channel_at_node t m p (received i x) l fit.site fit.partition (received_keeps i x) h q e)

  takes : (h q e : ℕ) → T (taken i m p h q e) → queue_in (popped (channel_of (site_of t h) q e)) ≡ tail (queue_in (channel_of (site_of t h) q e))
  takes h q e b =
      let both = and_yes (at i p h q) (eqb e (place_of i m)) b in
      let same = at_yes i p h q both.0 in
      let g : e ≡ place_of i m = eqb_yes both.1 in
      queue_popped (channel_of (site_of t h) q e)
      (length-channel_of t h q l (omega (arith, fit.source)) (omega (arith, fit.partition)) e (omega (arith, near)))
      (bytes-channel_of t fit.bytes h q e)

  pub store-receive : (j q : ℕ) → store_in (node_of (site_of (put_core (Receive i m p x) t) j) q) ≡ cond (at m p j q) (store_in (node_of (site_of t j) q) ++ records_in x) (store_in (node_of (site_of t j) q))
  store-receive =
      node_changed t (put_core (Receive i m p x) t) m p (received i x) node_receive store_in (λ j q. store_in (node_of (site_of t j) q) ++ records_in x)
      (store-received i x (node_of (site_of t m) p) (length-node_of t m p l fit.site fit.partition) fit.source fit.msg fit.room)

  decode-receive : decode (put_core (Receive i m p x) t) ≡ apply (Receive i m p x) (decode t)
  unfolding decode apply receive shelve
  decode-receive =
      let u = put_core (Receive i m p x) t in
      let n = node_of (site_of t m) p in
      let long = length-node_of t m p l fit.site fit.partition in
      let bytes = bytes-node_of t fit.bytes m p in
      state_ext (decode u) (apply (Receive i m p x) (decode t))
      setting-receive
      (node_kept t u m p (received i x) node_receive clock_in (clock-received i x n long fit.source))
      (node_changed t u m p (received i x) node_receive heard_in (λ j q. at_least (heard_in (node_of (site_of t j) q)) i (stamp_in x)) (heard-received i x n long fit.source bytes fit.msg))
      store-receive
      (chan_changed t u popped tail (taken i m p) (taken_from i m p) channel_receive takes
      (λ h j q w. taken_taken_from i m p h j q fit.other (way_yes h j w).1)
      (λ h j q w. sym (cond_both (taken_from i m p h j q) [])))
      session-receive

-- ---- any change, but for the kept places

pub length-put_core : (c : Change) (t : List ℕ) → Long t → Fits c t → length (put_core c t) ≡ length t
length-put_core (SetSession s x) = length_set_session s x
length-put_core (SetClock m p c) = length-set_clock m p c
length-put_core (Publish m p x) = length-publish m p x
length-put_core (Receive i m p x) = length-receive i m p x

pub setting_core : (c : Change) (t : List ℕ) → Long t → Fits c t → setting_in (put_core c t) ≡ setting_in t
setting_core (SetSession s x) = setting_set_session s x
setting_core (SetClock m p c) = setting-set_clock m p c
setting_core (Publish m p x) = setting-publish m p x
setting_core (Receive i m p x) = setting-receive i m p x

decode_core : (c : Change) (t : List ℕ) → Long t → Fits c t → decode (put_core c t) ≡ apply c (decode t)
decode_core (SetSession s x) = decode_set_session s x
decode_core (SetClock m p c) = decode-set_clock m p c
decode_core (Publish m p x) = decode-publish m p x
decode_core (Receive i m p x) = decode-receive i m p x

-- ---- any change, and many

module _ (c : Change) (t : List ℕ) (l : Long t) (fit : Fits c t) where
  pub length-put_change : length (put_change c t) ≡ length t
  unfolding put_change
  length-put_change =
      let e = length-put_core c t l fit in
      after_elim (λ u. length u ≡ length t) c t (put_core c t) fit e e (λ m p w h g. length_anew (put_core c t) m p w h g ∙ e)

  pub setting-put : setting_in (put_change c t) ≡ setting_in t
  unfolding put_change
  setting-put =
      let e = setting_core c t l fit in
      after_elim (λ u. setting_in u ≡ setting_in t) c t (put_core c t) fit (length-put_core c t l fit) e (λ m p w h g. setting_anew (put_core c t) m p w h g ∙ e)

  pub decode-put : decode (put_change c t) ≡ apply c (decode t)
  unfolding put_change
  decode-put =
      let e = decode_core c t l fit in
      after_elim (λ u. decode u ≡ apply c (decode t)) c t (put_core c t) fit (length-put_core c t l fit) e (λ m p w h g. decode_anew (put_core c t) m p w h g ∙ e)

pub length-put_changes : (cs : List Change) (t : List ℕ) → Long t → FitsAll cs t → length (put_changes cs t) ≡ length t
unfolding put_changes
length-put_changes [] t l fit = refl
length-put_changes (c ∷ cs) t l fit =
    let e = length-put_change c t l fit.0 in length-put_changes cs (put_change c t) (long_still t (put_change c t) e l) fit.1 ∙ e

pub setting_puts : (cs : List Change) (t : List ℕ) → Long t → FitsAll cs t → setting_in (put_changes cs t) ≡ setting_in t
unfolding put_changes
setting_puts [] t l fit = refl
setting_puts (c ∷ cs) t l fit = setting_puts cs (put_change c t) (long_still t (put_change c t) (length-put_change c t l fit.0) l) fit.1 ∙ setting-put c t l fit.0

pub decode_puts : (cs : List Change) (t : List ℕ) → Long t → FitsAll cs t → decode (put_changes cs t) ≡ apply_all cs (decode t)
unfolding put_changes apply_all
decode_puts [] t l fit = refl
decode_puts (c ∷ cs) t l fit =
    decode_puts cs (put_change c t) (long_still t (put_change c t) (length-put_change c t l fit.0) l) fit.1 ∙ ap (apply_all cs) (decode-put c t l fit.0)
