-- Each of the four changes writes the same bytes at the same places of two tables that agree on what it looks at. In order: what is done to a node, to
-- a channel, to a site that sends; what a change looks at (`Seen`), and the numbers found there; each change but for the kept places; the kept places; any
-- change, and many.
use Prim.Native.Nat.{ℕ, zero, suc, ◌+◌, ◌*◌, ◌-◌, ◌%◌, ◌≤◌, ◌<◌, max}
use native.Mathlib.Omega.{arith}
use mathlib.Core.Path.{◌≡◌, refl, sym, ap, ◌∙◌}
use mathlib.Core.Logic.{inr}
use mathlib.Core.List.{List, [], ◌∷◌, ◌++◌}
use lib.ListN.{length}
use Rattle.codec.specs.Le.{load, put}
use Rattle.codec.specs.Part.{Keeps}
use Rattle.vector.proofs.Entries.{load_vec-below}
use Rattle.protocol.specs.Record.{Msg, Update, Heartbeat, stamp_in, records_in}
use Rattle.protocol.specs.State.{Session}
use Rattle.protocol.specs.Promises.{SiteAlike}
use Rattle.protocol.specs.Change.{Change, SetSession, SetClock, Publish, Receive}
use Rattle.parts.specs.Node.{heard_in, held_in, store_in, slot_at, clock_set, stored, published, received}
use Rattle.parts.specs.Channel.{ring_at, front_in, wait_in, pushed, popped}
use Rattle.parts.specs.Session.{put_session}
use Rattle.parts.proofs.Lengths.{clock_set_keeps, published_keeps, received_keeps, pushed_keeps, popped_keeps, put_session_keeps}
use Rattle.parts.proofs.NodeBytes.{held_before}
use Rattle.search.specs.Kept.{places_in}
use Rattle.search.proofs.Kept.{length_places, places_same}
use Rattle.table.specs.Parts.{Long, Whole, kept_at, place_of, session_of, site_of, node_of, channel_of, on_session, on_site, on_node, on_channel, on_kept}
use Rattle.table.specs.Decode.{setting_in, decode}
use Rattle.table.specs.Put.{sent_to, published_on, put_core, kept_anew, kept_after, put_change, put_changes}
use Rattle.table.specs.Fits.{FitsPublish, FitsReceive, Fits, FitsAll}
use Rattle.table.proofs.Parts.{long_still, whole_still, length-session, length-site, length_node, length_channel, length-on_site, length-on_node, channel_on_node, length-node_of, length-channel_of}
use Rattle.table.proofs.Changes.{place-lt, on_node_keeps, channel_at_node, on_channel_keeps, published_on_keeps}
use Rattle.table.proofs.Sent.{length-sent, channel_sent}
use Rattle.table.proofs.Decode.{length-put_core, setting_core, length-put_change}
use Rattle.table.proofs.Follows.{published-store, received-store}
use Rattle.lawful.proofs.Facts.{store_length}
use Rattle.lawful.proofs.Fits.{other_at, chan-length}
use Rattle.archive.specs.Influence.{NextAlike, SameWrites}
use Rattle.archive.proofs.Writes.{Twin, Both, twin_none, twin_then, twin_put, twin_put_record, twin_put_message, twin_put_session, twin_on_session, twin_on_site, twin_on_node, twin_on_channel, twin_on_part}

-- ---- a node

twin_stored : (x : Msg) {s s' r r' : List ℕ} → Twin s s' r r' → held_in s' ≡ held_in r' → Twin s (stored x s') r (stored x r')
unfolding stored
twin_stored (Update q) {s} {s'} {r} {r'} a e = rw e (twin_put 1 40 (held_in r' + 1) (twin_put_record (slot_at (held_in r')) 1 q a))
twin_stored (Heartbeat t) a e = a

module _ (n k : List ℕ) (i : ℕ) (h : i < 4) (x : Msg) (l : length n ≡ length k) (e : held_in n ≡ held_in k) where
  -- entry i set to v, and the message stored
  twin_entered : (v : ℕ) → Twin n (stored x (put 8 n (8 + 8 * i) v)) k (stored x (put 8 k (8 + 8 * i) v))
  twin_entered v = twin_stored x (twin_put 8 (8 + 8 * i) v (twin_none n k l)) (held_before n 8 (8 + 8 * i) v (omega arith) ∙ e ∙ sym (held_before k 8 (8 + 8 * i) v (omega arith)))

  twin_published : Twin n (published i x n) k (published i x k)
  unfolding published
  twin_published = twin_entered (stamp_in x)

  twin_received : load 8 n (8 + 8 * i) ≡ load 8 k (8 + 8 * i) → Twin n (received i x n) k (received i x k)
  unfolding received
  twin_received g = rw g (twin_entered (max (load 8 k (8 + 8 * i)) (stamp_in x)))

-- ---- a channel: as many messages wait, and the next goes to the same place

record Next (c b : List ℕ) : Type 0 where
  wait : wait_in c ≡ wait_in b
  place : (front_in c + wait_in c) % 8 ≡ (front_in b + wait_in b) % 8

twin_pushed : (m : ℕ) (x : Msg) (c b : List ℕ) → length c ≡ length b → Next c b → Twin c (pushed m x c) b (pushed m x b)
unfolding pushed
twin_pushed m x c b l e = rw (e.place, e.wait) (twin_put 1 1 (wait_in b + 1) (twin_put_message (ring_at (front_in b) (wait_in b)) m x (twin_none c b l)))

twin_popped : (c b : List ℕ) → length c ≡ length b → wait_in c ≡ wait_in b → front_in c % 8 ≡ front_in b % 8 → Twin c (popped c) b (popped b)
unfolding popped
twin_popped c b l e g =
    let f : (front_in c + 1) % 8 ≡ (front_in b + 1) % 8 = omega arith in
    rw (f, e) (twin_put 1 1 (wait_in b - 1) (twin_put 1 0 ((front_in b + 1) % 8) (twin_none c b l)))

-- ---- a site that sends: into the first n channels of partition p

abbrev Ways : (n p : ℕ) (s r : List ℕ) → Type 0
Ways n p s r = (d : ℕ) → d < n → Next (channel_of s p d) (channel_of r p d)

module _ (m p : ℕ) (x : Msg) (h : p < 4) (s r : List ℕ) (l : length s ≡ 13056) (l' : length r ≡ 13056) where
  twin_way : (d : ℕ) → d < 3 → Next (channel_of s p d) (channel_of r p d) → Both (pushed m x) (channel_of s p d) (channel_of r p d)
  twin_way d b e = (twin_pushed m x (channel_of s p d) (channel_of r p d) (length_channel s p d l h b ∙ sym (length_channel r p d l' h b)) e).writes

  -- the channels that the message has not come to are as they were
  twin_sent_to : (n : ℕ) → n ≤ 3 → Ways n p s r → Twin s (sent_to n m p x s) r (sent_to n m p x r)
  unfolding sent_to
  twin_sent_to zero b w = twin_none s r (l ∙ sym l')
  twin_sent_to (suc n) b w =
      let few : n ≤ 3 = omega arith in
      let here : n < 3 = omega arith in
      let there : n ≤ n = omega arith in
      twin_then (twin_sent_to n few (λ d g. w d (omega arith)))
      (twin_on_channel (pushed m x) (sent_to n m p x s) (sent_to n m p x r) p (length-sent m p x s l h n few) (length-sent m p x r l' h n few) h n here (pushed_keeps m x)
      (rw (channel_sent m p x s l h n n there here, channel_sent m p x r l' h n n there here) (twin_way n here (w n (omega arith)))))

module _ (m p : ℕ) (x : Msg) (h : p < 4) (s r : List ℕ) (l : length s ≡ 13056) (l' : length r ≡ 13056) where
  abbrev own : List ℕ → List ℕ
  own = on_node p (published m x)

  length_own : (v : List ℕ) → length v ≡ 13056 → length (own v) ≡ 13056
  length_own v k = length-on_node v p (published m x) k h (published_keeps m x) ∙ k

  twin_own : m < 4 → held_in (node_of s p) ≡ held_in (node_of r p) → Twin s (own s) r (own r)
  twin_own g e =
      twin_on_node (published m x) s r p l l' h (published_keeps m x)
      (twin_published (node_of s p) (node_of r p) m g x (length_node s p l h ∙ sym (length_node r p l' h)) e).writes

  ways_own : (n : ℕ) → Ways n p s r → Ways n p (own s) (own r)
  ways_own n w d b =
      rw (channel_on_node s p (published m x) l h (published_keeps m x) p d, channel_on_node r p (published m x) l' h (published_keeps m x) p d) (w d b)

  twin_published_on : (n : ℕ) → n ≤ 3 → m < 4 → held_in (node_of s p) ≡ held_in (node_of r p) → Ways n p s r → Twin s (published_on n m p x s) r (published_on n m p x r)
  unfolding published_on
  twin_published_on n b g e w = twin_then (twin_own g e) (twin_sent_to m p x h (own s) (own r) (length_own s l) (length_own r l') n b (ways_own n w))

-- ---- what a change looks at

-- the tables agree on the nodes of site m and on how full their outgoing channels are
abbrev pub AlikeAt : (t u : List ℕ) (m : ℕ) → Type 0
AlikeAt t u m = SiteAlike (decode t).net (decode u).net m

-- where the front of the channel from site i to site m stands
abbrev front_of : List ℕ → (i m p : ℕ) → ℕ
front_of t i m p = front_in (channel_of (site_of t i) p (place_of i m)) % 8

abbrev pub Seen : Change → (t u : List ℕ) → Type 0
Seen (SetSession s x) t u = Unit {0}
Seen (SetClock m p c) t u = Unit {0}
Seen (Publish m p x) t u = AlikeAt t u m × (p < (setting_in t).partitions) × NextAlike t u m
Seen (Receive i m p x) t u = AlikeAt t u m × (p < (setting_in t).partitions) × ((decode t).net.chan i m p ≡ (decode u).net.chan i m p) × (front_of t i m p ≡ front_of u i m p)

-- each change looks at the tables that those before it leave
abbrev pub SeenAll : List Change → (t u : List ℕ) → Type 0
SeenAll [] t u = Unit {0}
SeenAll (c ∷ cs) t u = Seen c t u × SeenAll cs (put_change c t) (put_change c u)

-- ---- and the numbers that it thereby finds the same

module _ (t u : List ℕ) where
  same_sites : (m : ℕ) → AlikeAt t u m → load 1 t 0 ≡ load 1 u 0
  unfolding decode
  same_sites m a = ap (λ c. c.sites) a.setting

  same_held : (m p : ℕ) → p < (setting_in t).partitions → AlikeAt t u m → held_in (node_of (site_of t m) p) ≡ held_in (node_of (site_of u m) p)
  unfolding decode
  same_held m p g a = sym (store_length t m p) ∙ ap length (a.store p (λ o. g)) ∙ store_length u m p

  same_heard : (m p i : ℕ) → p < (setting_in t).partitions → i < 4 → AlikeAt t u m → load 8 (node_of (site_of t m) p) (8 + 8 * i) ≡ load 8 (node_of (site_of u m) p) (8 + 8 * i)
  unfolding decode heard_in
  same_heard m p i g h a = sym (load_vec-below (node_of (site_of t m) p) 8 i h) ∙ a.heard p i (λ o. g) ∙ load_vec-below (node_of (site_of u m) p) 8 i h

  -- as many messages wait from site i to site m
  same_wait : (i m p : ℕ) → m < 4 → (i ≡ m → ⊥) → length ((decode t).net.chan i m p) ≡ length ((decode u).net.chan i m p)
      → wait_in (channel_of (site_of t i) p (place_of i m)) ≡ wait_in (channel_of (site_of u i) p (place_of i m))
  same_wait i m p h d e = sym (chan-length t i m p h d) ∙ e ∙ chan-length u i m p h d

  same_next : (m p d : ℕ) → m < load 1 t 0 → load 1 t 0 ≤ 4 → p < (setting_in t).partitions → d < load 1 t 0 - 1 → AlikeAt t u m → NextAlike t u m → Next (channel_of (site_of t m) p d) (channel_of (site_of u m) p d)
  unfolding NextAlike decode
  same_next m p d h few g b a next =
      let o = other_at (load 1 t 0) m d h b in
      let w = same_wait m o.site p (omega (arith, o.there)) (λ q. o.other (sym q)) (a.sent p o.site (λ y. g) o.there) in
      record { wait = rw (← o.place) w; place = next p d g b }

-- ---- something done to a session, a node, a channel of both tables

module _ (t u : List ℕ) (l : Long t) (l' : length u ≡ length t) where
  as_long : Long u
  as_long = long_still t u l' l

  twin_at_session : (s : ℕ) (x : Session) → s < 16 → Twin t (on_session s (put_session x) t) u (on_session s (put_session x) u)
  twin_at_session s x h =
      twin_on_session (put_session x) t u l l' s h (put_session_keeps x)
      (twin_put_session x (twin_none (session_of t s) (session_of u s) (length-session t s l h ∙ sym (length-session u s as_long h)))).writes

  same_node : (m p : ℕ) → m < 4 → p < 4 → length (node_of (site_of t m) p) ≡ length (node_of (site_of u m) p)
  same_node m p h g = length-node_of t m p l h g ∙ sym (length-node_of u m p as_long h g)

  same_channel : (i p d : ℕ) → i < 4 → p < 4 → d < 3 → length (channel_of (site_of t i) p d) ≡ length (channel_of (site_of u i) p d)
  same_channel i p d h g b = length-channel_of t i p l h g d b ∙ sym (length-channel_of u i p as_long h g d b)

  module _ (f : List ℕ → List ℕ) (m p : ℕ) (h : m < 4) (g : p < 4) where
    twin_at_node : Keeps 1856 f → Both f (node_of (site_of t m) p) (node_of (site_of u m) p) → Twin t (on_site m (on_node p f) t) u (on_site m (on_node p f) u)
    twin_at_node keeps a =
        twin_on_site (on_node p f) t u l l' m h (on_node_keeps t m p f l h g keeps)
        (twin_on_node f (site_of t m) (site_of u m) p (length-site t m l h) (length-site u m as_long h) g keeps a).writes

    twin_at_channel : (d : ℕ) → d < 3 → Keeps 464 f → Both f (channel_of (site_of t m) p d) (channel_of (site_of u m) p d) → Twin t (on_site m (on_channel p d f) t) u (on_site m (on_channel p d f) u)
    twin_at_channel d b keeps a =
        twin_on_site (on_channel p d f) t u l l' m h (on_channel_keeps t m p d f l h g b keeps)
        (twin_on_channel f (site_of t m) (site_of u m) p (length-site t m l h) (length-site u m as_long h) g d b keeps a).writes

-- ---- the changes, but for the kept places

module _ (t u : List ℕ) (l : Long t) (l' : length u ≡ length t) where
  twin_clock : (m p c : ℕ) → m < 4 → p < 4 → Twin t (on_site m (on_node p (clock_set c)) t) u (on_site m (on_node p (clock_set c)) u)
  unfolding clock_set
  twin_clock m p c h g =
      twin_at_node t u l l' (clock_set c) m p h g (clock_set_keeps c)
      (twin_put 8 0 c (twin_none (node_of (site_of t m) p) (node_of (site_of u m) p) (same_node t u l l' m p h g))).writes

  twin_publish : (m p : ℕ) (x : Msg) → FitsPublish m p x t → Seen (Publish m p x) t u → Twin t (put_core (Publish m p x) t) u (put_core (Publish m p x) u)
  unfolding put_core
  twin_publish m p x fit seen =
      let a = seen.0 in
      let n = load 1 t 0 - 1 in
      let h : m < 4 = omega (arith, fit.site, fit.sites) in
      let b : n ≤ 3 = omega (arith, fit.sites) in
      rw (← same_sites t u m a)
      (twin_on_site (published_on n m p x) t u l l' m h (published_on_keeps t n m p x l h fit.partition b)
      (twin_published_on m p x fit.partition (site_of t m) (site_of u m) (length-site t m l h) (length-site u m (as_long t u l l') h) n b h (same_held t u m p seen.1 a)
      (λ d c. same_next t u m p d fit.site fit.sites seen.1 c a seen.2)).writes)

  -- the node stores and hears, then the message leaves the other site's channel, which is as it was
  twin_receive : (i m p : ℕ) (x : Msg) → FitsReceive i m p x t → Seen (Receive i m p x) t u → Twin t (put_core (Receive i m p x) t) u (put_core (Receive i m p x) u)
  unfolding put_core
  twin_receive i m p x fit seen =
      twin_then (twin_at_node t u l l' (received i x) m p fit.site fit.partition keeps node.writes)
      (twin_at_channel (f t) (f u) (long_still t (f t) (same t l) l) (same u k ∙ l' ∙ sym (same t l)) popped i p fit.source fit.partition d b popped_keeps
      (rw (beside t l, beside u k) channel.writes))
    where
      k : Long u
      k = as_long t u l l'

      d : ℕ
      d = place_of i m

      b : d < 3
      b = place-lt 4 i m fit.source fit.site fit.other

      f : List ℕ → List ℕ
      f = on_site m (on_node p (received i x))

      keeps : Keeps 1856 (received i x)
      keeps = received_keeps i x

      same : (v : List ℕ) → Long v → length (f v) ≡ length v
      same v k = length-on_site v m (on_node p (received i x)) k fit.site (on_node_keeps v m p (received i x) k fit.site fit.partition keeps)

      beside : (v : List ℕ) → Long v → channel_of (site_of (f v) i) p d ≡ channel_of (site_of v i) p d
      beside v k = channel_at_node v m p (received i x) k fit.site fit.partition keeps i p d

      node : Twin (node_of (site_of t m) p) (received i x (node_of (site_of t m) p)) (node_of (site_of u m) p) (received i x (node_of (site_of u m) p))
      node =
          twin_received (node_of (site_of t m) p) (node_of (site_of u m) p) i fit.source x (same_node t u l l' m p fit.site fit.partition) (same_held t u m p seen.1 seen.0)
          (same_heard t u m p i seen.1 fit.source seen.0)

      channel : Twin (channel_of (site_of t i) p d) (popped (channel_of (site_of t i) p d)) (channel_of (site_of u i) p d) (popped (channel_of (site_of u i) p d))
      channel =
          twin_popped (channel_of (site_of t i) p d) (channel_of (site_of u i) p d) (same_channel t u l l' i p d fit.source fit.partition b)
          (same_wait t u i m p fit.site fit.other (ap length seen.2)) seen.3

-- ---- the kept places set anew, of two nodes that store the same

module _ (t u : List ℕ) (l : Whole t) (l' : length u ≡ length t) (m p : ℕ) (h : m < 4) (g : p < 4) where
  twin_anew : setting_in t ≡ setting_in u → store_in (node_of (site_of t m) p) ≡ store_in (node_of (site_of u m) p) → Twin t (kept_anew m p t) u (kept_anew m p u)
  unfolding kept_anew on_kept SameWrites
  twin_anew c e =
      let places = places_in (setting_in t) (node_of (site_of t m) p) in
      let same : places_in (setting_in u) (node_of (site_of u m) p) ≡ places =
      ap (λ k. places_in k (node_of (site_of u m) p)) (sym c) ∙ places_same (setting_in t) (node_of (site_of t m) p) (node_of (site_of u m) p) (sym e) in
      rw same (twin_on_part (kept_at m p) 64 (λ s. places) t u (omega arith) (sym l') (λ s k. length_places (setting_in t) (node_of (site_of t m) p)) (λ j. inr refl))

-- ---- any change, and many

module _ (c : Change) (t u : List ℕ) (l : Long t) (l' : length u ≡ length t) (fit : Fits c t) (fit' : Fits c u) where
  abbrev v : List ℕ
  v = put_core c t

  abbrev w : List ℕ
  w = put_core c u

  -- after which node (m, p) has the message x too
  twin_kept : (m p : ℕ) (x : Msg) → Whole t → m < 4 → p < 4 → p < (setting_in t).partitions → AlikeAt t u m
      → store_in (node_of (site_of v m) p) ≡ store_in (node_of (site_of t m) p) ++ records_in x → store_in (node_of (site_of w m) p) ≡ store_in (node_of (site_of u m) p) ++ records_in x
      → Twin t v u w → Twin t (kept_anew m p v) u (kept_anew m p w)
  unfolding decode
  twin_kept m p x whole h g there a e f core =
      let k = length-put_core c t l fit in
      let k' = length-put_core c u (as_long t u l l') fit' in
      twin_then core
      (twin_anew v w (whole_still t v k whole) (k' ∙ l' ∙ sym k) m p h g (setting_core c t l fit ∙ a.setting ∙ sym (setting_core c u (as_long t u l l') fit'))
      (e ∙ ap (λ s. s ++ records_in x) (a.store p (λ o. there)) ∙ sym f))

twin_change : (c : Change) (t u : List ℕ) → Long t → length u ≡ length t → Fits c t → Fits c u → Seen c t u → Twin t (put_change c t) u (put_change c u)
unfolding put_change kept_after
twin_change (SetSession s x) t u l l' fit fit' seen = unfold put_core in twin_at_session t u l l' s x fit.0
twin_change (SetClock m p k) t u l l' fit fit' seen = unfold put_core in twin_clock t u l l' m p k fit.0 fit.1
twin_change (Publish m p x) t u l l' fit fit' seen =
    twin_kept (Publish m p x) t u l l' fit fit' m p x fit.whole (omega (arith, fit.site, fit.sites)) fit.partition seen.1 seen.0
    (published-store m p x t fit) (published-store m p x u fit') (twin_publish t u l l' m p x fit seen)
twin_change (Receive i m p x) t u l l' fit fit' seen =
    twin_kept (Receive i m p x) t u l l' fit fit' m p x fit.whole fit.site fit.partition seen.1 seen.0
    (received-store i m p x t fit) (received-store i m p x u fit') (twin_receive t u l l' i m p x fit seen)

pub twin_changes : (cs : List Change) (t u : List ℕ) → Long t → length u ≡ length t → FitsAll cs t → FitsAll cs u → SeenAll cs t u → Twin t (put_changes cs t) u (put_changes cs u)
unfolding put_changes
twin_changes [] t u l l' fit fit' seen = twin_none t u (sym l')
twin_changes (c ∷ cs) t u l l' fit fit' seen =
    let e = length-put_change c t l fit.0 in
    let e' = length-put_change c u (as_long t u l l') fit'.0 in
    twin_then (twin_change c t u l l' fit.0 fit'.0 seen.0)
    (twin_changes cs (put_change c t) (put_change c u) (long_still t (put_change c t) e l) (e' ∙ l' ∙ sym e) fit.1 fit'.1 seen.1)
