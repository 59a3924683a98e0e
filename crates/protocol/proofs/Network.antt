-- The three changes of the network keep its invariant: publish (PUT, BEAT), receive (DELIVER), set_clock (CLOCK). Each also gives `Later`.
use Prim.Native.Nat.{ℕ, ◌≤◌, ◌<◌, max}
use native.Mathlib.Omega.{arith}
use mathlib.Core.Path.{◌≡◌, refl, sym, ap, subst}
use mathlib.Core.Logic.{◌⊎◌, inl, inr}
use mathlib.Core.Bool.{Bool, true, false, cond, not, ◌&&◌}
use mathlib.Core.List.Memᴰ
use mathlib.Core.List.{List, [], ◌∷◌, ◌++◌, tail}
use lib.Dec.{T, ltb, eqb, lt→ltb}
use mir.Facts.{T_not, and_yes, yes_and, eqb_yes}
use Rattle.codec.proofs.Tests.{cond_elim, yes_eqb}
use Rattle.vector.specs.Vec.{Vec, width, with_entry, at_least}
use Rattle.protocol.specs.Record.{partition_of, Rec, Msg, Update, Heartbeat, stamp_in, records_in}
use Rattle.protocol.specs.State.{Net}
use Rattle.protocol.specs.Change.{at, set_clock, publish, receive}
use Rattle.protocol.specs.Past.{◌∈◌}
use Rattle.protocol.proofs.Nodes.{at_yes, yes_at}
use Rattle.protocol.proofs.Shelf.{in_shelve, shelve_old, shelve_new}
use Rattle.protocol.proofs.Invariant.{Ascending, ascending_up, ascending_snoc, ascending_still, home, Bound, NetInv, Later}

-- entry i of a vector that is changed there, at one node
entry_of : (a b : Bool) (f g : Vec) (i s : ℕ) → f i ≡ cond b s (g i) → cond a f g i ≡ cond (a && b) s (g i)
entry_of true b f g i s e = e
entry_of false b f g i s e = refl

-- ---- messages and their records

update_in : (r : Rec) (x : Msg) → Update r ≡ x → r ∈ records_in x
unfolding records_in
update_in r x e = subst (λ y. r ∈ records_in y) e (Memᴰ.head refl)

in_update : (r : Rec) (x : Msg) → r ∈ records_in x → x ≡ Update r
unfolding records_in
in_update r (Update q) m = ap Update (sym (Memᴰ.eq_of_singleton m))
in_update r (Heartbeat t) m = absurd (Memᴰ.not-nil m)

-- ---- PUBLISH

-- the channel from i to j after node (m, p) published, by tests: i is m, j is m, the partition is p, j exists
publish_order : (a b d c : Bool) (s hj hi : ℕ) (l : List Msg) (x : Msg) → s ≡ stamp_in x → (T a → T d → hi < s) → (T a → T b → hj ≡ hi) →
    Ascending hj l hi → Ascending (cond ((b && d) && a) s hj) (cond ((a && d) && (c && not b)) (l ++ (x ∷ [])) l) (cond ((a && d) && a) s hi)
publish_order false false d c s hj hi l x z up eq h = h
publish_order false true false c s hj hi l x z up eq h = h
publish_order false true true c s hj hi l x z up eq h = h
publish_order true true false c s hj hi l x z up eq h = h
publish_order true true true true s hj hi l x z up eq h = ascending_still l hi s (subst (λ n. Ascending n l hi) (eq tt tt) h)
publish_order true true true false s hj hi l x z up eq h = ascending_still l hi s (subst (λ n. Ascending n l hi) (eq tt tt) h)
publish_order true false false c s hj hi l x z up eq h = h
publish_order true false true true s hj hi l x z up eq h =
    subst (λ n. Ascending hj (l ++ (x ∷ [])) n) (sym z) (ascending_snoc l hj hi x (let k = up tt tt in omega arith) h)
publish_order true false true false s hj hi l x z up eq h = ascending_up l hj hi s (let k = up tt tt in omega arith) h

module _ (N : Net) (W : List Rec) (m p : ℕ) (x : Msg) (I : NetInv N W) (site : m < N.setting.sites) (high : N.heard m p m < stamp_in x)
    (news : (r : Rec) → r ∈ records_in x → (x ≡ Update r) × (r.id.source ≡ m) × (home N r ≡ p)) where
  publish-entry : (j q i : ℕ) → (publish N m p x).heard j q i ≡ cond (at m p j q && eqb i m) (stamp_in x) (N.heard j q i)
  unfolding publish with_entry
  publish-entry j q i = entry_of (at m p j q) (eqb i m) (with_entry (N.heard j q) m (stamp_in x)) (N.heard j q) i (stamp_in x) refl

  -- the own entry only rises
  publish-heard : (j q i : ℕ) → N.heard j q i ≤ (publish N m p x).heard j q i
  publish-heard j q i = rw (publish-entry j q i) (cond_elim (λ n. N.heard j q i ≤ n) (at m p j q && eqb i m) hit (λ t. omega arith))
    where
      hit : T (at m p j q && eqb i m) → N.heard j q i ≤ stamp_in x
      hit t =
          let k = and_yes (at m p j q) (eqb i m) t in
          let a = at_yes m p j q k.0 in
          let b : i ≡ m = eqb_yes k.1 in
          rw (a.0, a.1, b) (omega arith)

  grown_store : (r : Rec) (j q : ℕ) → r ∈ N.store j q → r ∈ (publish N m p x).store j q
  unfolding publish
  grown_store r j q h = cond_elim (λ l. r ∈ l) (at m p j q) (λ t. shelve_old N.setting (N.store j q) (records_in x) r h) (λ t. h)

  grown_chan : (y : Msg) (i j q : ℕ) → y ∈ N.chan i j q → y ∈ (publish N m p x).chan i j q
  unfolding publish
  grown_chan y i j q h = cond_elim (λ l. y ∈ l) (at m p i q && (ltb j N.setting.sites && not (eqb j m))) (λ t. Memᴰ.append_left (x ∷ []) h) (λ t. h)

  -- the new record is at its own node, and on its way to each other site
  new_bound : (r : Rec) → r ∈ records_in x → (j : ℕ) → j < N.setting.sites → Bound (publish N m p x) j r
  unfolding Bound publish
  new_bound r n j l = go (eqb j m) (λ t. t) (λ t. t)
    where
      q : ℕ
      q = home N r

      store : j ≡ m → r ∈ (publish N m p x).store j q
      store e = cond_elim (λ l. r ∈ l) (at m p j q) (λ t. shelve_new N.setting (N.store j q) (records_in x) r n) (λ t. absurd (T_not (at m p j q) (yes_at m p j q e (news r n).2) t))

      sends : Bool
      sends = at m p r.id.source q && (ltb j N.setting.sites && not (eqb j m))

      sent : T (not (eqb j m)) → T sends
      sent d =
          yes_and (at m p r.id.source q) (ltb j N.setting.sites && not (eqb j m)) (yes_at m p r.id.source q (news r n).1 (news r n).2)
          (yes_and (ltb j N.setting.sites) (not (eqb j m)) (lt→ltb j N.setting.sites l) d)

      chan : T (not (eqb j m)) → Update r ∈ (publish N m p x).chan r.id.source j q
      chan d =
          cond_elim (λ l. Update r ∈ l) sends (λ t. Memᴰ.append_right (N.chan r.id.source j q) (Memᴰ.head (sym (news r n).0)))
          (λ t. absurd (T_not sends (sent d) t))

      go : (b : Bool) → (T b → T (eqb j m)) → (T (not b) → T (not (eqb j m))) → Bound (publish N m p x) j r
      go true f g = inl (store (eqb_yes (f tt)))
      go false f g = inr (chan (g tt))

  old_bound : (r : Rec) (j : ℕ) → Bound N j r → Bound (publish N m p x) j r
  unfolding Bound publish
  old_bound r j (inl s) = inl (grown_store r j (home N r) s)
  old_bound r j (inr c) = inr (grown_chan (Update r) r.id.source j (home N r) c)

  new_stamp : (r : Rec) → r ∈ records_in x → stamp_in x ≡ r.id.stamp
  unfolding stamp_in
  new_stamp r n = ap stamp_in (news r n).0

  new_own : (r : Rec) → r ∈ records_in x → r.id.stamp ≤ (publish N m p x).heard r.id.source (home N r) r.id.source
  new_own r n =
      rw (publish-entry r.id.source (home N r) r.id.source, (news r n).1, (news r n).2)
      (cond_elim (λ k. r.id.stamp ≤ k) (at m p m p && eqb m m) (λ t. omega (arith, new_stamp r n))
      (λ t. absurd (T_not (at m p m p && eqb m m) (yes_and (at m p m p) (eqb m m) (yes_at m p m p refl refl) (yes_eqb m m refl)) t)))

  -- a new record is above all that its node has heard of itself
  new_above : (r : Rec) → r ∈ records_in x → N.heard r.id.source (home N r) r.id.source < r.id.stamp
  new_above r n = rw ((news r n).1, (news r n).2, ← new_stamp r n) high

  new_not_old : (r q : Rec) → r ∈ records_in x → q ∈ W → r.id ≡ q.id → ⊥
  new_not_old r q n w e =
      let a = new_above r n in
      let b = subst (λ i. i.stamp ≤ N.heard i.source (partition_of N.setting i.key) i.source) (sym e) (I.own q w) in
      omega arith

  publish_once : (r q : Rec) → (r ∈ records_in x) ⊎ (r ∈ W) → (q ∈ records_in x) ⊎ (q ∈ W) → r.id ≡ q.id → r ≡ q
  publish_once r q (inl a) (inl b) e = let f = (news r a).0 in let g = (news q b).0 in cc
  publish_once r q (inl a) (inr b) e = absurd (new_not_old r q a b e)
  publish_once r q (inr a) (inl b) e = absurd (new_not_old q r b a (sym e))
  publish_once r q (inr a) (inr b) e = I.once r q a b e

  pub publish_inv : NetInv (publish N m p x) (records_in x ++ W)
  unfolding publish at
  publish_inv = record {
    few = I.few;
    real = λ r w. real r (Memᴰ.append_cases (records_in x) w);
    own = λ r w. own r (Memᴰ.append_cases (records_in x) w);
    bound = λ r w j l. bound r j l (Memᴰ.append_cases (records_in x) w);
    order = order;
    known = λ r j q. cond_elim (λ l. r ∈ l → r ∈ records_in x ++ W) (at m p j q) (λ t s. known r j q (in_shelve N.setting (N.store j q) (records_in x) r s)) (λ t s. Memᴰ.append_right (records_in x) (I.known r j q s));
    sent = λ r i j q. cond_elim (λ l. Update r ∈ l → r ∈ records_in x ++ W) (at m p i q && (ltb j N.setting.sites && not (eqb j m)))
        (λ t s. sent r i j q (Memᴰ.append_cases (N.chan i j q) s)) (λ t s. Memᴰ.append_right (records_in x) (I.sent r i j q s));
    once = λ r q a b. publish_once r q (Memᴰ.append_cases (records_in x) a) (Memᴰ.append_cases (records_in x) b);
  }
    where
      real : (r : Rec) → (r ∈ records_in x) ⊎ (r ∈ W) → r.id.source < N.setting.sites
      real r (inl n) = rw (news r n).1 site
      real r (inr w) = I.real r w

      own : (r : Rec) → (r ∈ records_in x) ⊎ (r ∈ W) → r.id.stamp ≤ (publish N m p x).heard r.id.source (home N r) r.id.source
      own r (inl n) = new_own r n
      own r (inr w) = let a = I.own r w in let b = publish-heard r.id.source (home N r) r.id.source in omega arith

      bound : (r : Rec) (j : ℕ) → j < N.setting.sites → (r ∈ records_in x) ⊎ (r ∈ W) → Bound (publish N m p x) j r
      bound r j l (inl n) = new_bound r n j l
      bound r j l (inr w) = old_bound r j (I.bound r w j l)

      order : (i j q : ℕ) → Ascending ((publish N m p x).heard j q i) ((publish N m p x).chan i j q) ((publish N m p x).heard i q i)
      order i j q =
          rw (publish-entry j q i, publish-entry i q i)
          (publish_order (eqb i m) (eqb j m) (eqb q p) (ltb j N.setting.sites) (stamp_in x) (N.heard j q i) (N.heard i q i) (N.chan i j q) x refl
          (λ a d. let e : i ≡ m = eqb_yes a in let f : q ≡ p = eqb_yes d in rw (e, f) high)
          (λ a b. let e : i ≡ m = eqb_yes a in let f : j ≡ m = eqb_yes b in rw (e, f))
          (I.order i j q))

      known : (r : Rec) (j q : ℕ) → (r ∈ N.store j q) ⊎ (r ∈ records_in x) → r ∈ records_in x ++ W
      known r j q (inl s) = Memᴰ.append_right (records_in x) (I.known r j q s)
      known r j q (inr n) = Memᴰ.append_left W n

      sent : (r : Rec) (i j q : ℕ) → (Update r ∈ N.chan i j q) ⊎ (Update r ∈ (x ∷ [])) → r ∈ records_in x ++ W
      sent r i j q (inl s) = Memᴰ.append_right (records_in x) (I.sent r i j q s)
      sent r i j q (inr n) = Memᴰ.append_left W (update_in r x (Memᴰ.eq_of_singleton n))

  pub publish_later : Later N W (publish N m p x) (records_in x ++ W)
  unfolding publish
  publish_later = record {
    setting = refl;
    heard = publish-heard;
    keep = λ r w. Memᴰ.append_right (records_in x) w;
    fresh = λ r w. fresh r (Memᴰ.append_cases (records_in x) w);
  }
    where
      fresh : (r : Rec) → (r ∈ records_in x) ⊎ (r ∈ W) → (r ∈ W) ⊎ ((r.id.source < width) × (N.heard r.id.source (home N r) r.id.source < r.id.stamp))
      fresh r (inl n) = inr (let a : m < width = (let b = I.few in omega arith) in rw (news r n).1 a, new_above r n)
      fresh r (inr w) = inl w

-- ---- RECEIVE

tail_in : (l : List Msg) (x : Msg) → x ∈ tail l → x ∈ l
tail_in [] x m = m
tail_in (y ∷ l) x m = Memᴰ.tail m

receive_order : (b : Bool) (hj hi hi' : ℕ) (l : List Msg) (x : Msg) (xs : List Msg) → hi ≤ hi' → (T b → l ≡ x ∷ xs) →
    Ascending hj l hi → Ascending (cond b (max hj (stamp_in x)) hj) (cond b (tail l) l) hi'
unfolding Ascending
receive_order true hj hi hi' l x xs up eq h =
    let k : Ascending hj (x ∷ xs) hi = rw (eq tt) at h in
    let z : max hj (stamp_in x) ≡ stamp_in x = omega arith in
    rw (z, eq tt) (ascending_up xs (stamp_in x) hi hi' up k.1)
receive_order false hj hi hi' l x xs up eq h = ascending_up l hj hi hi' up h

module _ (N : Net) (W : List Rec) (i m p : ℕ) (x : Msg) (xs : List Msg) (I : NetInv N W) (front : N.chan i m p ≡ x ∷ xs) where
  front_is : (h j q : ℕ) → T (at m p j q && eqb h i) → N.chan h j q ≡ x ∷ xs
  front_is h j q t =
      let k = and_yes (at m p j q) (eqb h i) t in
      let a = at_yes m p j q k.0 in
      let b : h ≡ i = eqb_yes k.1 in
      rw (b, a.0, a.1) front

  receive-entry : (j q h : ℕ) → (receive N i m p x).heard j q h ≡ cond (at m p j q && eqb h i) (max (N.heard j q h) (stamp_in x)) (N.heard j q h)
  unfolding receive at_least
  receive-entry j q h = entry_of (at m p j q) (eqb h i) (at_least (N.heard j q) i (stamp_in x)) (N.heard j q) h (max (N.heard j q h) (stamp_in x)) refl

  receive-heard : (j q h : ℕ) → N.heard j q h ≤ (receive N i m p x).heard j q h
  receive-heard j q h = rw (receive-entry j q h) (cond_elim (λ n. N.heard j q h ≤ n) (at m p j q && eqb h i) (λ t. omega arith) (λ t. omega arith))

  received : (r : Rec) → r ∈ records_in x → r ∈ W
  received r n = I.sent r i m p (rw front (Memᴰ.head (sym (in_update r x n))))

  receive_bound : (r : Rec) (j : ℕ) → Bound N j r → Bound (receive N i m p x) j r
  unfolding Bound receive
  receive_bound r j (inl s) = inl (cond_elim (λ l. r ∈ l) (at m p j (home N r)) (λ t. shelve_old N.setting (N.store j (home N r)) (records_in x) r s) (λ t. s))
  receive_bound r j (inr c) = go b (λ t. t) (λ t. t)
    where
      q : ℕ
      q = home N r

      b : Bool
      b = at m p j q && eqb r.id.source i

      stored : T b → r ∈ records_in x → r ∈ (receive N i m p x).store j q
      stored t n =
          cond_elim (λ l. r ∈ l) (at m p j q) (λ u. shelve_new N.setting (N.store j q) (records_in x) r n)
          (λ u. absurd (T_not (at m p j q) (and_yes (at m p j q) (eqb r.id.source i) t).0 u))

      hit : T b → (Update r ≡ x) ⊎ (Update r ∈ xs) → Bound (receive N i m p x) j r
      hit t (inl e) = inl (stored t (update_in r x e))
      hit t (inr k) = inr (cond_elim (λ l. Update r ∈ l) b (λ u. rw (front_is r.id.source j q t) k) (λ u. c))

      go : (a : Bool) → (T a → T b) → (T (not a) → T (not b)) → Bound (receive N i m p x) j r
      go true f g = hit (f tt) (Memᴰ.cases_cons (rw (front_is r.id.source j q (f tt)) at c))
      go false f g = inr (cond_elim (λ l. Update r ∈ l) b (λ u. absurd (T_not b u (g tt))) (λ u. c))

  pub receive_inv : NetInv (receive N i m p x) W
  unfolding receive
  receive_inv = record {
    few = I.few;
    real = I.real;
    own = λ r w. let a = I.own r w in let b = receive-heard r.id.source (home N r) r.id.source in omega arith;
    bound = λ r w j l. receive_bound r j (I.bound r w j l);
    order = λ h j q.
        rw (receive-entry j q h)
        (receive_order (at m p j q && eqb h i) (N.heard j q h) (N.heard h q h) ((receive N i m p x).heard h q h) (N.chan h j q) x xs (receive-heard h q h) (front_is h j q) (I.order h j q));
    known = λ r j q. cond_elim (λ l. r ∈ l → r ∈ W) (at m p j q) (λ t s. known r j q (in_shelve N.setting (N.store j q) (records_in x) r s)) (λ t s. I.known r j q s);
    sent = λ r h j q. cond_elim (λ l. Update r ∈ l → r ∈ W) (at m p j q && eqb h i) (λ t s. I.sent r h j q (tail_in (N.chan h j q) (Update r) s)) (λ t s. I.sent r h j q s);
    once = I.once;
  }
    where
      known : (r : Rec) (j q : ℕ) → (r ∈ N.store j q) ⊎ (r ∈ records_in x) → r ∈ W
      known r j q (inl s) = I.known r j q s
      known r j q (inr n) = received r n

  pub receive_later : Later N W (receive N i m p x) W
  unfolding receive
  receive_later = record { setting = refl; heard = receive-heard; keep = λ r w. w; fresh = λ r w. inl w }

-- ---- SETCLOCK

pub clock_inv : (N : Net) (W : List Rec) (m p t : ℕ) → NetInv N W → NetInv (set_clock N m p t) W
unfolding set_clock Bound
clock_inv N W m p t I = record { few = I.few; real = I.real; own = I.own; bound = I.bound; order = I.order; known = I.known; sent = I.sent; once = I.once }

pub clock_later : (N : Net) (W : List Rec) (m p t : ℕ) → Later N W (set_clock N m p t) W
unfolding set_clock
clock_later N W m p t = record { setting = refl; heard = λ j q i. omega arith; keep = λ r w. w; fresh = λ r w. inl w }
