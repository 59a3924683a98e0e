-- A lawful change keeps a table well formed. In order: a table of the same setting, a change of one site, node or channel, each change, many changes,
-- and every step (`step_formed`). That the kept places go on agreeing is table's law `change_kept`.
use Prim.Native.Nat.{ℕ, ◌-◌, ◌≤◌, ◌<◌}
use native.Mathlib.Omega.{arith}
use mathlib.Core.Path.{◌≡◌, sym, subst}
use mathlib.Core.Bool.{◌&&◌}
use mathlib.Core.List.{List, [], ◌∷◌}
use lib.Dec.{T, ltb, eqb}
use mir.Facts.{and_yes, ltb_yes}
use Rattle.codec.specs.Le.{Bytes}
use Rattle.codec.specs.Part.{Keeps}
use Rattle.codec.proofs.Tests.{cond_elim}
use Rattle.protocol.specs.Record.{Msg}
use Rattle.protocol.specs.State.{Session}
use Rattle.protocol.specs.Event.{Event}
use Rattle.protocol.specs.Change.{Change, SetSession, SetClock, Publish, Receive, at}
use Rattle.protocol.specs.Step.{step}
use Rattle.protocol.proofs.Nodes.{at_elim}
use Rattle.parts.specs.Node.{clock_set, published, received}
use Rattle.parts.specs.Channel.{pushed, popped}
use Rattle.parts.specs.Session.{put_session}
use Rattle.parts.proofs.Lengths.{clock_set_keeps, received_keeps, popped_keeps, put_session_keeps}
use Rattle.table.specs.Parts.{Long, Whole, place_of, session_of, site_of, node_of, channel_of, on_session, on_site, on_node, on_channel}
use Rattle.table.specs.Decode.{setting_in, decode}
use Rattle.table.specs.Put.{published_on, put_core, kept_anew, put_change, put_changes}
use Rattle.table.specs.Fits.{FitsPublish, FitsReceive, Fits}
use Rattle.table.proofs.Parts.{long_still, whole_long, whole_still, length-session, session-on_session, site-on_session, length-on_site, session-on_site, load-on_site, length-node_of, length-channel_of, bytes-channel_of}
use Rattle.table.proofs.Changes.{place-lt, on_node_keeps, node_at_node, channel_at_node, on_channel_keeps, node_at_channel, channel_at_channel, published_on_keeps, node_at_publish, channel_at_publish}
use Rattle.table.proofs.Bytes.{bytes-put_change}
use Rattle.table.proofs.KeptPlaces.{setting_anew, site_anew, session_anew, after_elim}
use Rattle.table.proofs.Decode.{length-put_core, setting_core, length-put_change, decode-put}
use Rattle.table.proofs.Follows.{Kept, change_kept}
use Rattle.lawful.specs.WellFormed.{well_formed}
use Rattle.lawful.proofs.Facts.{SessionFacts, NodeFacts, ChannelFacts, Formed, formed, kept, well_formed_lem, says_lawful}
use Rattle.lawful.proofs.Served.{Lawful, LawfulAll, step_lawful}
use Rattle.lawful.proofs.Fits.{lawful_fits}
use Rattle.lawful.proofs.SessionFormed.{session-kept}
use Rattle.lawful.proofs.NodeFormed.{clock-kept, published-kept, received-kept}
use Rattle.lawful.proofs.ChannelFormed.{pushed-kept, popped-kept}

-- ---- a table of the same setting

formed_again : (t u : List ℕ) → setting_in u ≡ setting_in t → Formed t
    → ((s : ℕ) → s < 16 → SessionFacts (setting_in t) (session_of u s))
    → ((m p : ℕ) → m < 4 → p < 4 → NodeFacts (setting_in t) m p (node_of (site_of u m) p))
    → ((m p d : ℕ) → m < 4 → p < 4 → d < 3 → ChannelFacts (setting_in t) m p d (channel_of (site_of u m) p d)) → Formed u
formed_again t u same F session node channel = record {
  site = subst (λ c. 0 < c.sites) (sym same) F.site;
  sites = subst (λ c. c.sites ≤ 4) (sym same) F.sites;
  partition = subst (λ c. 0 < c.partitions) (sym same) F.partition;
  partitions = subst (λ c. c.partitions ≤ 4) (sym same) F.partitions;
  session = λ s h. subst (λ c. SessionFacts c (session_of u s)) (sym same) (session s h);
  node = λ m p h g. subst (λ c. NodeFacts c m p (node_of (site_of u m) p)) (sym same) (node m p h g);
  channel = λ m p d h g k. subst (λ c. ChannelFacts c m p d (channel_of (site_of u m) p d)) (sym same) (channel m p d h g k);
}

-- ---- a change of site m, of one node, of one channel

module _ (t : List ℕ) (l : Long t) (F : Formed t) where
  abbrev Nodes : List ℕ → Type 0
  Nodes u = (j q : ℕ) → j < 4 → q < 4 → NodeFacts (setting_in t) j q (node_of (site_of u j) q)

  abbrev Ways : List ℕ → Type 0
  Ways u = (j q e : ℕ) → j < 4 → q < 4 → e < 3 → ChannelFacts (setting_in t) j q e (channel_of (site_of u j) q e)

  module _ (m : ℕ) (f : List ℕ → List ℕ) (h : m < 4) (keeps : Keeps 13056 f) where
    same_setting : setting_in (on_site m f t) ≡ setting_in t
    same_setting = λ z. record { sites = load-on_site t m f l h keeps 1 0 (omega arith) z; partitions = load-on_site t m f l h keeps 1 1 (omega arith) z }

    on_site_formed : Nodes (on_site m f t) → Ways (on_site m f t) → Formed (on_site m f t)
    on_site_formed node channel = formed_again t (on_site m f t) same_setting F (λ s b. rw (session-on_site t m f l h keeps s) (F.session s b)) node channel

  module _ (m p : ℕ) (f : List ℕ → List ℕ) (h : m < 4) (g : p < 4) (keeps : Keeps 1856 f) where
    on_node_formed : NodeFacts (setting_in t) m p (f (node_of (site_of t m) p)) → Formed (on_site m (on_node p f) t)
    on_node_formed facts =
        on_site_formed m (on_node p f) h (on_node_keeps t m p f l h g keeps)
        (λ j q a b.
        rw (node_at_node t m p f l h g keeps j q)
        (cond_elim (NodeFacts (setting_in t) j q) (at m p j q) (at_elim (λ j q. NodeFacts (setting_in t) j q (f (node_of (site_of t j) q))) m p j q facts) (λ d. F.node j q a b)))
        (λ j q e a b d. rw (channel_at_node t m p f l h g keeps j q e) (F.channel j q e a b d))

  module _ (i p d : ℕ) (f : List ℕ → List ℕ) (h : i < 4) (g : p < 4) (k : d < 3) (keeps : Keeps 464 f) where
    on_channel_formed : ((j q e : ℕ) → j < 4 → q < 4 → e < 3 → ChannelFacts (setting_in t) j q e (f (channel_of (site_of t j) q e))) → Formed (on_site i (on_channel p d f) t)
    on_channel_formed facts =
        on_site_formed i (on_channel p d f) h (on_channel_keeps t i p d f l h g k keeps)
        (λ j q a b. rw (node_at_channel t i p d f l h g k keeps j q) (F.node j q a b))
        (λ j q e a b n.
        rw (channel_at_channel t i p d f l h g k keeps j q e)
        (cond_elim (ChannelFacts (setting_in t) j q e) (at i p j q && eqb e d) (λ v. facts j q e a b n) (λ v. F.channel j q e a b n)))

-- ---- each change

module _ (t : List ℕ) (w : Whole t) (K : Kept t) (bytes : Bytes t) (F : Formed t) where
  l : Long t
  l = whole_long t w

  fits : (c : Change) → Lawful c (decode t) → Fits c t
  fits c ok = lawful_fits c t w K F.sites F.partitions bytes ok

  module _ (s : ℕ) (x : Session) (ok : Lawful (SetSession s x) (decode t)) where
    session_changed : (r : ℕ) → r < 16 → SessionFacts (setting_in t) (session_of (put_core (SetSession s x) t) r)
    unfolding put_core decode
    session_changed r h =
        rw (session-on_session t s (put_session x) l ok.0 (put_session_keeps x) r)
        (cond_elim (SessionFacts (setting_in t)) (eqb r s)
        (λ e. session-kept (setting_in t) x (session_of t r) (length-session t r l h) F.sites ok.1 (F.session r h)) (λ e. F.session r h))

    session_formed_lem : Formed (put_core (SetSession s x) t)
    unfolding put_core
    session_formed_lem =
        let sites = site-on_session t s (put_session x) l ok.0 (put_session_keeps x) in
        formed_again t (on_session s (put_session x) t) (setting_core (SetSession s x) t l (fits (SetSession s x) ok)) F session_changed
        (λ m p h g. rw (sites m) (F.node m p h g)) (λ m p d h g k. rw (sites m) (F.channel m p d h g k))

  clock_formed : (m p v : ℕ) → Lawful (SetClock m p v) (decode t) → Formed (put_core (SetClock m p v) t)
  unfolding put_core decode
  clock_formed m p v ok =
      let fit = fits (SetClock m p v) ok in
      on_node_formed t l F m p (clock_set v) fit.0 fit.1 (clock_set_keeps v)
      (clock-kept (setting_in t) m p v (node_of (site_of t m) p) (length-node_of t m p l fit.0 fit.1) ok.2 (F.node m p fit.0 fit.1))

  module _ (m p : ℕ) (x : Msg) (ok : Lawful (Publish m p x) (decode t)) where
    abbrev n : ℕ
    n = (setting_in t).sites - 1

    fit_publish : FitsPublish m p x t
    fit_publish = fits (Publish m p x) ok

    there : m < 4
    unfolding decode
    there = omega (arith, ok.site, F.sites)

    node_published : NodeFacts (setting_in t) m p (published m x (node_of (site_of t m) p))
    unfolding decode
    node_published =
        let part = fit_publish.partition in
        published-kept (setting_in t) m p F.sites ok.site ok.partition x (node_of (site_of t m) p) (length-node_of t m p l there part) ok.msg fit_publish.room (F.node m p there part)

    channel_published : (d : ℕ) → d < 3 → d < n → ChannelFacts (setting_in t) m p d (pushed m x (channel_of (site_of t m) p d))
    unfolding decode
    channel_published d h g =
        let part = fit_publish.partition in
        pushed-kept (setting_in t) m p d (channel_of (site_of t m) p d) (length-channel_of t m p l there part d h) x (fit_publish.ways d g) F.sites ok.site ok.partition g ok.msg (F.channel m p d there part h)

    publish_formed : Formed (put_core (Publish m p x) t)
    unfolding put_core
    publish_formed =
        let c = setting_in t in
        let part = fit_publish.partition in
        let few : n ≤ 3 = omega (arith, F.sites) in
        on_site_formed t l F m (published_on n m p x) there (published_on_keeps t n m p x l there part few)
        (λ j q h g.
        rw (node_at_publish t n m p x l there part few j q)
        (cond_elim (NodeFacts c j q) (at m p j q) (at_elim (λ j q. NodeFacts c j q (published m x (node_of (site_of t j) q))) m p j q node_published) (λ e. F.node j q h g)))
        (λ j q d h g k.
        rw (channel_at_publish t n m p x l there part few j q d)
        (cond_elim (ChannelFacts c j q d) (at m p j q && ltb d n)
        (λ b.
        let both = and_yes (at m p j q) (ltb d n) b in
        at_elim (λ j q. ChannelFacts c j q d (pushed m x (channel_of (site_of t j) q d))) m p j q (channel_published d k (ltb_yes both.1)) both.0)
        (λ e. F.channel j q d h g k)))

  module _ (i m p : ℕ) (x : Msg) (ok : Lawful (Receive i m p x) (decode t)) where
    fit_receive : FitsReceive i m p x t
    fit_receive = fits (Receive i m p x) ok

    -- the table when the node has the message and the channel has it still
    abbrev u : List ℕ
    u = on_site m (on_node p (received i x)) t

    node_received : Formed u
    unfolding decode
    node_received =
        let site = fit_receive.site in
        let part = fit_receive.partition in
        on_node_formed t l F m p (received i x) site part (received_keeps i x)
        (received-kept (setting_in t) m p F.sites ok.site ok.partition i x (node_of (site_of t m) p) (length-node_of t m p l site part) ok.source ok.msg fit_receive.room (F.node m p site part))

    receive_formed : Formed (put_core (Receive i m p x) t)
    unfolding put_core
    receive_formed =
        let site = fit_receive.site in
        let part = fit_receive.partition in
        let near = place-lt 4 i m fit_receive.source site fit_receive.other in
        let long = long_still t u (length-on_site t m (on_node p (received i x)) l site (on_node_keeps t m p (received i x) l site part (received_keeps i x))) l in
        on_channel_formed u long node_received i p (place_of i m) popped fit_receive.source part near popped_keeps
        (λ j q e h g k.
        let bytes' = subst Bytes (sym (channel_at_node t m p (received i x) l site part (received_keeps i x) j q e)) (bytes-channel_of t bytes j q e) in
        popped-kept (setting_in u) j q e (channel_of (site_of u j) q e) (length-channel_of u j q long h g e k) bytes' (node_received.channel j q e h g k))

  core_formed : (c : Change) → Lawful c (decode t) → Formed (put_core c t)
  core_formed (SetSession s x) = session_formed_lem s x
  core_formed (SetClock m p v) = clock_formed m p v
  core_formed (Publish m p x) = publish_formed m p x
  core_formed (Receive i m p x) = receive_formed i m p x

  -- and its kept places set anew
  anew_formed : (m p : ℕ) (u : List ℕ) → Whole u → m < 4 → p < 4 → Formed u → Formed (kept_anew m p u)
  anew_formed m p u w h g G =
      let sites = site_anew u m p w h g in
      formed_again u (kept_anew m p u) (setting_anew u m p w h g) G
      (λ s b. rw (session_anew u m p w h g s) (G.session s b))
      (λ j q a b. rw (sites j) (G.node j q a b))
      (λ j q d a b k. rw (sites j) (G.channel j q d a b k))

  change_formed : (c : Change) → Lawful c (decode t) → Formed (put_change c t)
  unfolding put_change
  change_formed c ok =
      after_elim Formed c t (put_core c t) (fits c ok) (length-put_core c t l (fits c ok)) (core_formed c ok)
      (λ m p w h g. anew_formed m p (put_core c t) w h g (core_formed c ok))

-- ---- many changes, and every step

changes_formed : (cs : List Change) (t : List ℕ) → Whole t → Bytes t → Kept t → Formed t → LawfulAll cs (decode t) → T (well_formed (put_changes cs t))
unfolding put_changes
changes_formed [] t l bytes K F ok = well_formed_lem t F K
changes_formed (c ∷ cs) t w bytes K F ok =
    let l = whole_long t w in
    let fit = lawful_fits c t w K F.sites F.partitions bytes ok.0 in
    changes_formed cs (put_change c t) (whole_still t (put_change c t) (length-put_change c t l fit) w) (bytes-put_change c t bytes) (change_kept c t w fit K) (change_formed t w K bytes F c ok.0)
    (subst (LawfulAll cs) (sym (decode-put c t l fit)) ok.1)

pub step_formed : (t : List ℕ) → Whole t → Bytes t → T (well_formed t) → (e : Event) → T (well_formed (put_changes (step (decode t) e).changes t))
step_formed t l bytes w e =
    let F = formed t w in
    changes_formed (step (decode t) e).changes t l bytes (kept t l w) F (step_lawful (decode t) (says_lawful t F bytes) e)
