-- The table's parts after each change. In order: choices, places of channels, which channels a change is done to, a site that sends, then the nodes
-- and channels of the table after a change of one node, of one channel, and after a node published.
use Prim.Native.Nat.{ℕ, zero, suc, ◌-◌, ◌≤◌, ◌<◌}
use native.Mathlib.Decide.{ℕ_discrete, dec_lt}
use native.Mathlib.Omega.{arith}
use mathlib.Core.Path.{◌≡◌, refl, sym, ap, ap₂, ◌∙◌}
use mathlib.Core.Bool.{Bool, cond, not, ◌&&◌, ◌||◌}
use mathlib.Core.List.{List}
use lib.Dec.{T, ltb, eqb, lt→ltb}
use lib.ListN.{length}
use mir.Facts.{and_yes, yes_and, ltb_yes, eqb_yes, eqb_no, yes_eqb, no_eqb}
use borrow.Author.Tests.{lt-ltb, le-ltb, eq-eqb, ne_eqb}
use Rattle.codec.specs.Part.{Keeps}
use Rattle.codec.proofs.Tests.{cond-and, cond_and₃, cond_both, cond_more, cond_no, same_test}
use Rattle.protocol.specs.Record.{Msg}
use Rattle.protocol.specs.Change.{at}
use Rattle.protocol.proofs.Nodes.{at_yes, yes_at}
use Rattle.parts.specs.Node.{published}
use Rattle.parts.specs.Channel.{pushed}
use Rattle.parts.proofs.Lengths.{published_keeps, pushed_keeps}
use Rattle.table.specs.Parts.{Long, place_of, site_of, node_of, channel_of, on_site, on_node, on_channel}
use Rattle.table.specs.Put.{sent_to, published_on}
use Rattle.table.proofs.Sent.{length-sent}
use Rattle.table.proofs.Parts.{length-on_node, node_on_node, channel_on_node, length-on_channel, channel_on_channel, node_on_channel, read-on_site}

-- ---- choices

ltb_suc : (e n : ℕ) → ltb e (suc n) ≡ (eqb e n || ltb e n)
ltb_suc e n = go (ℕ_discrete e n)
  where
    go : Dec (e ≡ n) → ltb e (suc n) ≡ (eqb e n || ltb e n)
    go (yes q) = rw (eq-eqb e n q) (lt-ltb e (suc n) (omega arith))
    go (no q) =
        rw (ne_eqb e n q)
        (same_test (ltb e (suc n)) (ltb e n) (λ a. let g : e < suc n = ltb_yes a in lt→ltb e n (omega arith)) (λ a. let g : e < n = ltb_yes a in lt→ltb e (suc n) (omega arith)))

-- ---- places of channels

place_low : (i m : ℕ) → m < i → place_of i m ≡ m
unfolding place_of
place_low i m h = rw (lt-ltb m i h)

place_high : (i m : ℕ) → i ≤ m → place_of i m ≡ m - 1
unfolding place_of
place_high i m h = rw (le-ltb m i h)

-- the places of the other sites below n are the numbers below n - 1
pub place-lt : (n i m : ℕ) → i < n → m < n → (i ≡ m → ⊥) → place_of i m < n - 1
place-lt n i m h g d = go (dec_lt m i)
  where
    go : Dec (m < i) → place_of i m < n - 1
    go (yes b) = omega (arith, place_low i m b)
    go (no b) = let c : i ≤ m = omega arith in omega (arith, place_high i m c)

pub place-from : (n i m : ℕ) → i < n → (i ≡ m → ⊥) → place_of i m < n - 1 → m < n
place-from n i m h d g = go (dec_lt m i)
  where
    go : Dec (m < i) → m < n
    go (yes b) = omega arith
    go (no b) = let c : i ≤ m = omega arith in omega (arith, place_high i m c)

pub place_inj : (i j m : ℕ) → (i ≡ j → ⊥) → (i ≡ m → ⊥) → place_of i j ≡ place_of i m → j ≡ m
place_inj i j m d g e = go (dec_lt j i) (dec_lt m i)
  where
    go : Dec (j < i) → Dec (m < i) → j ≡ m
    go (yes b) (yes c) = omega (arith, place_low i j b, place_low i m c)
    go (yes b) (no c) = let c' : i ≤ m = omega arith in omega (arith, place_low i j b, place_high i m c')
    go (no b) (yes c) = let b' : i ≤ j = omega arith in omega (arith, place_high i j b', place_low i m c)
    go (no b) (no c) =
        let b' : i ≤ j = omega arith in
        let c' : i ≤ m = omega arith in omega (arith, place_high i j b', place_high i m c')

-- ---- which channels a change is done to: by places, and by sites

-- the message of node (m, p) goes into channel (i, q, e), and to site j from site i, where there are n sites
abbrev pub sent : (n m p i q e : ℕ) → Bool
sent n m p i q e = at m p i q && ltb e (n - 1)

abbrev pub sent_by : (n m p i j q : ℕ) → Bool
sent_by n m p i j q = at m p i q && (ltb j n && not (eqb j m))

pub sent_by_yes : (n m p i j q : ℕ) → T (sent_by n m p i j q) → (i ≡ m) × (q ≡ p) × (j < n) × (j ≡ m → ⊥)
sent_by_yes n m p i j q b =
    let all = and_yes (at m p i q) (ltb j n && not (eqb j m)) b in
    let same = at_yes m p i q all.0 in
    let rest = and_yes (ltb j n) (not (eqb j m)) all.1 in (same.0, same.1, ltb_yes rest.0, eqb_no rest.1)

pub sent_sent_by : (n m p i j q : ℕ) → m < n → (i ≡ j → ⊥) → sent n m p i q (place_of i j) ≡ sent_by n m p i j q
sent_sent_by n m p i j q h d = same_test (sent n m p i q (place_of i j)) (sent_by n m p i j q) to from
  where
    to : T (sent n m p i q (place_of i j)) → T (sent_by n m p i j q)
    to b =
        let both = and_yes (at m p i q) (ltb (place_of i j) (n - 1)) b in
        let same = at_yes m p i q both.0 in
        let g = place-from n i j (omega arith) d (ltb_yes both.1) in
        let c : j ≡ m → ⊥ = λ e. d (omega arith) in
        yes_and (at m p i q) (ltb j n && not (eqb j m)) both.0 (yes_and (ltb j n) (not (eqb j m)) (lt→ltb j n g) (no_eqb c))

    from : T (sent_by n m p i j q) → T (sent n m p i q (place_of i j))
    from b =
        let all = sent_by_yes n m p i j q b in
        yes_and (at m p i q) (ltb (place_of i j) (n - 1)) (yes_at m p i q all.0 all.1) (lt→ltb (place_of i j) (n - 1) (place-lt n i j (omega arith) (omega arith) d))

-- the message from site i leaves for node (m, p): out of channel (h, q, e), and from site h to site j
abbrev pub taken : (i m p h q e : ℕ) → Bool
taken i m p h q e = at i p h q && eqb e (place_of i m)

abbrev pub taken_from : (i m p h j q : ℕ) → Bool
taken_from i m p h j q = at m p j q && eqb h i

pub taken_taken_from : (i m p h j q : ℕ) → (i ≡ m → ⊥) → (h ≡ j → ⊥) → taken i m p h q (place_of h j) ≡ taken_from i m p h j q
taken_taken_from i m p h j q d g = same_test (taken i m p h q (place_of h j)) (taken_from i m p h j q) to from
  where
    to : T (taken i m p h q (place_of h j)) → T (taken_from i m p h j q)
    to b =
        let both = and_yes (at i p h q) (eqb (place_of h j) (place_of i m)) b in
        let same = at_yes i p h q both.0 in
        let e : place_of h j ≡ place_of i m = eqb_yes both.1 in
        let e' : place_of i j ≡ place_of i m = ap (λ k. place_of k j) (sym same.0) ∙ e in
        yes_and (at m p j q) (eqb h i) (yes_at m p j q (place_inj i j m (λ c. g (omega arith)) d e') same.1) (yes_eqb same.0)

    from : T (taken_from i m p h j q) → T (taken i m p h q (place_of h j))
    from b =
        let both = and_yes (at m p j q) (eqb h i) b in
        let same = at_yes m p j q both.0 in
        let e : h ≡ i = eqb_yes both.1 in
        yes_and (at i p h q) (eqb (place_of h j) (place_of i m)) (yes_at i p h q e same.1) (yes_eqb (ap₂ place_of e same.0))

-- ---- a site after a message was sent to the first n of its channels

module _ (m p : ℕ) (x : Msg) (s : List ℕ) (l : length s ≡ 13056) (h : p < 4) where
  node_sent_to : (n : ℕ) → n ≤ 3 → (q : ℕ) → node_of (sent_to n m p x s) q ≡ node_of s q
  unfolding sent_to
  node_sent_to zero b q = refl
  node_sent_to (suc n) b q =
      node_on_channel (sent_to n m p x s) p n (pushed m x) (length-sent m p x s l h n (omega arith)) h (omega arith) (pushed_keeps m x) q ∙ node_sent_to n (omega arith) q

  channel_sent_to : (n : ℕ) → n ≤ 3 → (q e : ℕ) → channel_of (sent_to n m p x s) q e ≡ cond (eqb q p && ltb e n) (pushed m x (channel_of s q e)) (channel_of s q e)
  unfolding sent_to
  channel_sent_to zero b q e =
      cond_no (eqb q p && ltb e 0) (pushed m x (channel_of s q e)) (channel_of s q e)
      (λ t. let g : e < 0 = ltb_yes (and_yes (eqb q p) (ltb e 0) t).1 in omega arith)
  channel_sent_to (suc n) b q e =
      channel_on_channel (sent_to n m p x s) p n (pushed m x) (length-sent m p x s l h n (omega arith)) h (omega arith) (pushed_keeps m x) q e
      ∙ cond_more (pushed m x) (eqb q p) (eqb e n) (ltb e n) (ltb e (suc n)) (channel_of s q e) (channel_of (sent_to n m p x s) q e) (channel_sent_to n (omega arith) q e) (ltb_suc e n)
      (λ t. let g : e ≡ n = eqb_yes t in le-ltb e n (omega arith))

-- "to each other site": the node and the first n channels of a partition
module _ (n m p : ℕ) (x : Msg) (s : List ℕ) (l : length s ≡ 13056) (h : p < 4) (few : n ≤ 3) where
  length_own : length (on_node p (published m x) s) ≡ 13056
  length_own = length-on_node s p (published m x) l h (published_keeps m x) ∙ l

  length-published_on : length (published_on n m p x s) ≡ 13056
  unfolding published_on
  length-published_on = length-sent m p x (on_node p (published m x) s) length_own h n few

  node_published_on : (q : ℕ) → node_of (published_on n m p x s) q ≡ cond (eqb q p) (published m x (node_of s q)) (node_of s q)
  unfolding published_on
  node_published_on q =
      node_sent_to m p x (on_node p (published m x) s) length_own h n few q ∙ node_on_node s p (published m x) l h (published_keeps m x) q

  channel_published_on : (q e : ℕ) → channel_of (published_on n m p x s) q e ≡ cond (eqb q p && ltb e n) (pushed m x (channel_of s q e)) (channel_of s q e)
  unfolding published_on
  channel_published_on q e =
      channel_sent_to m p x (on_node p (published m x) s) length_own h n few q e
      ∙ ap (λ c. cond (eqb q p && ltb e n) (pushed m x c) c) (channel_on_node s p (published m x) l h (published_keeps m x) q e)

-- ---- the table's nodes and channels after f was done to node (m, p)

module _ (t : List ℕ) (m p : ℕ) (f : List ℕ → List ℕ) (l : Long t) (h : m < 4) (h' : p < 4) (keeps : Keeps 1856 f) where
  pub on_node_keeps : Keeps 13056 (on_node p f)
  on_node_keeps s e = length-on_node s p f e h' keeps ∙ e

  pub node_at_node : (j q : ℕ) → node_of (site_of (on_site m (on_node p f) t) j) q ≡ cond (at m p j q) (f (node_of (site_of t j) q)) (node_of (site_of t j) q)
  unfolding at
  node_at_node j q =
      let n = node_of (site_of t j) q in
      read-on_site (λ s. node_of s q) t m (on_node p f) l h on_node_keeps j (cond (eqb q p) (f n) n) (λ g. node_on_node (site_of t j) p f g h' keeps q)
      ∙ cond-and (eqb j m) (eqb q p) (f n) n

  pub channel_at_node : (j q e : ℕ) → channel_of (site_of (on_site m (on_node p f) t) j) q e ≡ channel_of (site_of t j) q e
  channel_at_node j q e =
      let c = channel_of (site_of t j) q e in
      read-on_site (λ s. channel_of s q e) t m (on_node p f) l h on_node_keeps j c (λ g. channel_on_node (site_of t j) p f g h' keeps q e)
      ∙ cond_both (eqb j m) c

-- ---- after f was done to channel (i, p, d)

module _ (t : List ℕ) (i p d : ℕ) (f : List ℕ → List ℕ) (l : Long t) (h : i < 4) (h' : p < 4) (h'' : d < 3) (keeps : Keeps 464 f) where
  pub on_channel_keeps : Keeps 13056 (on_channel p d f)
  on_channel_keeps s e = length-on_channel s p d f e h' h'' keeps ∙ e

  pub node_at_channel : (j q : ℕ) → node_of (site_of (on_site i (on_channel p d f) t) j) q ≡ node_of (site_of t j) q
  node_at_channel j q =
      let n = node_of (site_of t j) q in
      read-on_site (λ s. node_of s q) t i (on_channel p d f) l h on_channel_keeps j n (λ g. node_on_channel (site_of t j) p d f g h' h'' keeps q)
      ∙ cond_both (eqb j i) n

  pub channel_at_channel : (j q e : ℕ) → channel_of (site_of (on_site i (on_channel p d f) t) j) q e ≡ cond (at i p j q && eqb e d) (f (channel_of (site_of t j) q e)) (channel_of (site_of t j) q e)
  unfolding at
  channel_at_channel j q e =
      let c = channel_of (site_of t j) q e in
      read-on_site (λ s. channel_of s q e) t i (on_channel p d f) l h on_channel_keeps j (cond (eqb q p && eqb e d) (f c) c) (λ g. channel_on_channel (site_of t j) p d f g h' h'' keeps q e)
      ∙ cond_and₃ (eqb j i) (eqb q p) (eqb e d) (f c) c

-- ---- after node (m, p) published

module _ (t : List ℕ) (n m p : ℕ) (x : Msg) (l : Long t) (h : m < 4) (h' : p < 4) (few : n ≤ 3) where
  pub published_on_keeps : Keeps 13056 (published_on n m p x)
  published_on_keeps s e = length-published_on n m p x s e h' few

  pub node_at_publish : (j q : ℕ) → node_of (site_of (on_site m (published_on n m p x) t) j) q ≡ cond (at m p j q) (published m x (node_of (site_of t j) q)) (node_of (site_of t j) q)
  unfolding at
  node_at_publish j q =
      let c = node_of (site_of t j) q in
      read-on_site (λ s. node_of s q) t m (published_on n m p x) l h published_on_keeps j (cond (eqb q p) (published m x c) c) (λ g. node_published_on n m p x (site_of t j) g h' few q)
      ∙ cond-and (eqb j m) (eqb q p) (published m x c) c

  pub channel_at_publish : (j q e : ℕ) → channel_of (site_of (on_site m (published_on n m p x) t) j) q e ≡ cond (at m p j q && ltb e n) (pushed m x (channel_of (site_of t j) q e)) (channel_of (site_of t j) q e)
  unfolding at
  channel_at_publish j q e =
      let c = channel_of (site_of t j) q e in
      read-on_site (λ s. channel_of s q e) t m (published_on n m p x) l h published_on_keeps j (cond (eqb q p && ltb e n) (pushed m x c) c) (λ g. channel_published_on n m p x (site_of t j) g h' few q e)
      ∙ cond_and₃ (eqb j m) (eqb q p) (ltb e n) (pushed m x c) c
