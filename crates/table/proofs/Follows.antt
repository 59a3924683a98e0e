-- The kept places follow a change. In order: something done to those of one node; what a change leaves of them; a node that made or took in a message,
-- where setting one byte makes them what the search finds; then every node after any change.
use Prim.Native.Nat.{ℕ, ◌-◌, ◌≤◌, ◌<◌}
use native.Mathlib.Omega.{arith}
use mathlib.Core.Path.{◌≡◌, sym, ap, ◌∙◌}
use mathlib.Core.Bool.{not}
use mathlib.Core.List.{List, ◌++◌, append-nil}
use lib.Dec.{T}
use lib.ListN.{get_or}
use borrow.Rule.Slice.PartMut.{put_mid, put_same}
use Rattle.codec.specs.Le.{load}
use Rattle.codec.proofs.Le.{load_byte}
use Rattle.codec.proofs.Tests.{cond_elim, cond-not}
use Rattle.protocol.specs.Record.{Setting, Msg, Update, Heartbeat, records_in}
use Rattle.protocol.specs.Change.{Change, SetSession, SetClock, Publish, Receive, at}
use Rattle.protocol.proofs.Nodes.{at_yes, at_own}
use Rattle.parts.specs.Node.{store_in, clock_set, received}
use Rattle.parts.specs.Channel.{popped}
use Rattle.parts.specs.Session.{put_session}
use Rattle.parts.specs.Room.{Room}
use Rattle.parts.proofs.Lengths.{clock_set_keeps, received_keeps, popped_keeps, put_session_keeps}
use Rattle.search.specs.Kept.{place_in, places_in}
use Rattle.search.proofs.Kept.{place_held, places_at, places_same, held_grown, places_grown}
use Rattle.table.specs.Parts.{Whole, Long, kept_at, place_of, site_of, node_of, kept_of, on_site, on_node, on_channel, on_kept}
use Rattle.table.specs.Decode.{setting_in}
use Rattle.table.specs.Put.{published_on, put_core, kept_anew, kept_after, put_change}
use Rattle.table.specs.Fits.{Keyed, KeptAt, FitsPublish, FitsReceive, Fits}
use Rattle.table.specs.Noted.{place_noted, noted, message_noted, Notable}
use Rattle.table.proofs.Parts.{long_still, length-on_site}
use Rattle.table.proofs.Changes.{place-lt, on_node_keeps, on_channel_keeps, published_on_keeps}
use Rattle.table.proofs.KeptPlaces.{kept_is, kept-on_session, kept-on_site, setting_anew, site_anew, kept_anew_lem}
use Rattle.table.proofs.Decode.{store_set_session, store-set_clock, store-publish, store-receive, length-put_core, setting_core}

-- ---- the kept places of one node

module _ (t : List ℕ) (m p : ℕ) (h : m < 4) (g : p < 4) where
  on_kept_ext : (f f' : List ℕ → List ℕ) → f (kept_of t m p) ≡ f' (kept_of t m p) → on_kept m p f t ≡ on_kept m p f' t
  unfolding on_kept
  on_kept_ext f f' e = ap (put_mid (kept_at m p) 64 t) (ap f (sym (kept_is t m p h g)) ∙ e ∙ ap f' (kept_is t m p h g))

  on_kept_same : (f : List ℕ → List ℕ) → f (kept_of t m p) ≡ kept_of t m p → on_kept m p f t ≡ t
  unfolding on_kept
  on_kept_same f e =
      ap (put_mid (kept_at m p) 64 t) (ap f (sym (kept_is t m p h g)) ∙ e ∙ kept_is t m p h g) ∙ put_same (kept_at m p) 64 t

-- ---- what a change leaves

kept_core : (c : Change) (t : List ℕ) → Whole t → Fits c t → (j q : ℕ) → kept_of (put_core c t) j q ≡ kept_of t j q
unfolding put_core
kept_core (SetSession s x) t l fit j q = kept-on_session t (put_session x) l s fit.0 (put_session_keeps x) j q
kept_core (SetClock m p c) t l fit j q =
    kept-on_site t (on_node p (clock_set c)) l m fit.0 (on_node_keeps t m p (clock_set c) (omega arith) fit.0 fit.1 (clock_set_keeps c)) j q
kept_core (Publish m p x) t l fit j q =
    let h : m < 4 = omega (arith, fit.site, fit.sites) in
    let few : load 1 t 0 - 1 ≤ 3 = omega (arith, fit.sites) in
    kept-on_site t (published_on (load 1 t 0 - 1) m p x) l m h (published_on_keeps t (load 1 t 0 - 1) m p x (omega arith) h fit.partition few) j q
kept_core (Receive i m p x) t l fit j q =
    let long : Long t = omega arith in
    let keeps = on_node_keeps t m p (received i x) long fit.site fit.partition (received_keeps i x) in
    let u = on_site m (on_node p (received i x)) t in
    let same = length-on_site t m (on_node p (received i x)) long fit.site keeps in
    let near = place-lt 4 i m fit.source fit.site fit.other in
    let keeps' = on_channel_keeps u i p (place_of i m) popped (long_still t u same long) fit.source fit.partition near popped_keeps in
    kept-on_site u (on_channel p (place_of i m) popped) (omega (arith, same)) i fit.source keeps' j q
    ∙ kept-on_site t (on_node p (received i x)) l m fit.site keeps j q

-- the same kept places and the same records, under the same setup
kept_still : (t u : List ℕ) (j q : ℕ) → setting_in u ≡ setting_in t → kept_of u j q ≡ kept_of t j q → store_in (node_of (site_of u j) q) ≡ store_in (node_of (site_of t j) q) → KeptAt j q t → KeptAt j q u
kept_still t u j q same kept store k =
    kept ∙ k ∙ ap (λ (c : Setting). places_in c (node_of (site_of t j) q)) (sym same) ∙ sym (places_same (setting_in u) (node_of (site_of t j) q) (node_of (site_of u j) q) store)

-- every node's kept places are what the search finds
abbrev pub Kept : List ℕ → Type 0
Kept t = (m p : ℕ) → m < 4 → p < 4 → KeptAt m p t

-- ---- a change, but for the kept places

module _ (c : Change) (t : List ℕ) (l : Whole t) (fit : Fits c t) where
  abbrev u : List ℕ
  u = put_core c t

  long : Long t
  long = omega arith

  whole : Whole u
  whole = omega (arith, length-put_core c t long fit)

  -- node (m, p) has the message x too
  module _ (m p : ℕ) (h : m < 4) (g : p < 4) (x : Msg) (kept : KeptAt m p t)
      (room : Room x (node_of (site_of t m) p)) (key : Keyed x) (store : store_in (node_of (site_of u m) p) ≡ store_in (node_of (site_of t m) p) ++ records_in x) where
    abbrev before : List ℕ
    before = node_of (site_of t m) p

    abbrev after : List ℕ
    after = node_of (site_of u m) p

    -- the kept places are still those of the node before
    old : kept_of u m p ≡ places_in (setting_in u) before
    old = kept_core c t l fit m p ∙ kept ∙ ap (λ (k : Setting). places_in k before) (sym (setting_core c t long fit))

    message_noted_lem : (y : Msg) → Room y before → Keyed y → store_in after ≡ store_in before ++ records_in y → message_noted m p y u ≡ kept_anew m p u
    unfolding message_noted noted place_noted kept_anew records_in
    message_noted_lem (Update r) free k e =
        on_kept_ext u m p h g (place_noted (setting_in u) after r.id.key) (λ s. places_in (setting_in u) after)
        (ap (place_noted (setting_in u) after r.id.key) old ∙ places_grown (setting_in u) before after r e k free)
    message_noted_lem (Heartbeat s) free k e =
        sym (on_kept_same u m p h g (λ s. places_in (setting_in u) after)
        (places_same (setting_in u) before after (e ∙ append-nil (store_in before)) ∙ sym old))

    message_notable : (y : Msg) → Room y before → Keyed y → store_in after ≡ store_in before ++ records_in y → Notable m p y u
    unfolding records_in
    message_notable (Update r) free k e =
        let held = held_grown (setting_in u) before after r e in
        let c = setting_in u in
        let byte : load 1 (kept_of u m p) r.id.key ≡ place_in c before r.id.key =
        load_byte (kept_of u m p) r.id.key ∙ ap (λ (s : List ℕ). get_or s r.id.key 0) old ∙ places_at c before r.id.key k in
        (k, omega arith, omega arith, omega (arith, byte, place_held c before r.id.key))
    message_notable (Heartbeat s) free k e = tt

    noted_is_anew : message_noted m p x u ≡ kept_anew m p u
    noted_is_anew = message_noted_lem x room key store

    notable : Notable m p x u
    notable = message_notable x room key store

  -- node (j, q) stores nothing
  abbrev Idle : (j q : ℕ) → Type 0
  Idle j q = store_in (node_of (site_of u j) q) ≡ store_in (node_of (site_of t j) q)

  idle_kept : (j q : ℕ) → Idle j q → KeptAt j q t → KeptAt j q u
  idle_kept j q = kept_still t u j q (setting_core c t long fit) (kept_core c t l fit j q)

  -- the node (m, p) stores, and its kept places are set anew
  anew_kept : (m p : ℕ) → m < 4 → p < 4 → ((j q : ℕ) → T (not (at m p j q)) → Idle j q) → Kept t → Kept (kept_anew m p u)
  anew_kept m p h g idle K j q a b =
      kept_anew_lem u m p whole h g j q
      ∙ cond_elim (λ s. s ≡ places_in (setting_in u) (node_of (site_of u j) q)) (at m p j q)
      (λ y. let e = at_yes m p j q y in rw (e.0, e.1))
      (λ n. idle_kept j q (idle j q n) (K j q a b))
      ∙ sym (ap (λ (c : Setting). places_in c (node_of (site_of (kept_anew m p u) j) q)) (setting_anew u m p whole h g)
      ∙ ap (λ (s : List ℕ). places_in (setting_in u) (node_of s q)) (site_anew u m p whole h g j))

-- ---- what the code does after a node made a message, and after it took one in

module _ (m p : ℕ) (x : Msg) (t : List ℕ) (fit : FitsPublish m p x t) where
  there : m < 4
  there = omega (arith, fit.site, fit.sites)

  pub published-store : store_in (node_of (site_of (put_core (Publish m p x) t) m) p) ≡ store_in (node_of (site_of t m) p) ++ records_in x
  published-store = store-publish m p x t (omega (arith, fit.whole)) fit m p ∙ at_own m p _ _

  pub publish-noted : message_noted m p x (put_core (Publish m p x) t) ≡ put_change (Publish m p x) t
  unfolding put_change kept_after
  publish-noted = noted_is_anew (Publish m p x) t fit.whole fit m p there fit.partition x fit.kept fit.room fit.key published-store

  pub publish_notable : Notable m p x (put_core (Publish m p x) t)
  publish_notable = notable (Publish m p x) t fit.whole fit m p there fit.partition x fit.kept fit.room fit.key published-store

module _ (i m p : ℕ) (x : Msg) (t : List ℕ) (fit : FitsReceive i m p x t) where
  pub received-store : store_in (node_of (site_of (put_core (Receive i m p x) t) m) p) ≡ store_in (node_of (site_of t m) p) ++ records_in x
  received-store = store-receive i m p x t (omega (arith, fit.whole)) fit m p ∙ at_own m p _ _

  pub receive-noted : message_noted m p x (put_core (Receive i m p x) t) ≡ put_change (Receive i m p x) t
  unfolding put_change kept_after
  receive-noted = noted_is_anew (Receive i m p x) t fit.whole fit m p fit.site fit.partition x fit.kept fit.room fit.key received-store

  pub receive_notable : Notable m p x (put_core (Receive i m p x) t)
  receive_notable = notable (Receive i m p x) t fit.whole fit m p fit.site fit.partition x fit.kept fit.room fit.key received-store

-- ---- every node after any change

pub change_kept : (c : Change) (t : List ℕ) → Whole t → Fits c t → Kept t → Kept (put_change c t)
unfolding put_change kept_after
change_kept (SetSession s x) t l fit = λ K j q a b. idle_kept (SetSession s x) t l fit j q (store_set_session s x t (omega arith) fit j q) (K j q a b)
change_kept (SetClock m p c) t l fit = λ K j q a b. idle_kept (SetClock m p c) t l fit j q (store-set_clock m p c t (omega arith) fit j q) (K j q a b)
change_kept (Publish m p x) t l fit =
    anew_kept (Publish m p x) t l fit m p (omega (arith, fit.site, fit.sites)) fit.partition
    (λ j q n. store-publish m p x t (omega arith) fit j q ∙ cond-not (at m p j q) _ _ n)
change_kept (Receive i m p x) t l fit =
    anew_kept (Receive i m p x) t l fit m p fit.site fit.partition
    (λ j q n. store-receive i m p x t (omega arith) fit j q ∙ cond-not (at m p j q) _ _ n)
