-- The sessions' half of the invariant. In order: what a vector answers for; the past of a record's writer; any step of the network; one session
-- changes; and what GET, BEGIN, READ and END leave of their session, with what GET and READ cover.
use Prim.Native.Nat.{ℕ, ◌≤◌, ◌<◌}
use native.Mathlib.Omega.{arith}
use mathlib.Core.Path.{◌≡◌, refl, sym, ap, subst, ◌∙◌}
use mathlib.Core.Logic.{◌⊎◌, inl, inr}
use mathlib.Core.Bool.{Bool, true, false, cond, not, ◌&&◌}
use mathlib.Core.List.Memᴰ
use mathlib.Core.List.{List, [], ◌∷◌, ◌++◌, flat_map}
use mathlib.Core.Option.{Option, some, none}
use lib.Dec.{T, eqb}
use mir.Facts.{T_not, and_yes, yes_and, eqb_yes}
use Rattle.codec.proofs.Tests.{cond_elim, yes_eqb}
use Rattle.vector.specs.Vec.{Vec, width, at_most, larger}
use Rattle.vector.proofs.Vec.{LeV, le_trans, at_most_le, le-at_most, at_most_but_le, larger_left, larger_right, raised-carried, raised-stamp}
use Rattle.protocol.specs.Record.{Setting, partition_of, Id, Rec, of_key, fits_page, raised_by}
use Rattle.protocol.specs.Shelf.{found}
use Rattle.protocol.specs.State.{Net, Session, no_page, with_vec, with_page}
use Rattle.protocol.specs.Event.{Answer, shown}
use Rattle.protocol.specs.Needs.{get_ready, read_ready}
use Rattle.protocol.specs.Change.{upd}
use Rattle.protocol.specs.Serve.{begun, read_on}
use Rattle.protocol.specs.Past.{◌∈◌, Write, Entry, Story, shown_in, shown_on, same_id, writer_past, with_pasts}
use Rattle.protocol.specs.Causal.{NoOlder, Covers, CoversAll}
use Rattle.protocol.proofs.Order.{NewestOf, raised_by_up}
use Rattle.protocol.proofs.Shelf.{found_is}
use Rattle.protocol.proofs.Invariant.{ascending_le, NetInv, heard-stored, Below, AllBelow, Shows, EntryInv, SessionInv, WriteInv, Later}

-- ---- what a vector answers for

pub below_up : (W : List Rec) (v w : Vec) (x : Id) → LeV v w → Below W v x → Below W w x
unfolding LeV
below_up W v w x l b = record {
  rec = b.rec;
  mem = b.mem;
  same = b.same;
  real = b.real;
  heard = omega (arith, b.heard, l b.rec.id.source b.real);
  carried = le_trans b.rec.carried v w b.carried l;
}

below_keep : (W W' : List Rec) (v : Vec) (x : Id) → ((r : Rec) → r ∈ W → r ∈ W') → Below W v x → Below W' v x
below_keep W W' v x k b = record { rec = b.rec; mem = k b.rec b.mem; same = b.same; real = b.real; heard = b.heard; carried = b.carried }

pub all_up : (W : List Rec) (v w : Vec) (xs : List Id) → LeV v w → AllBelow W v xs → AllBelow W w xs
unfolding AllBelow
all_up W v w xs l h x m = below_up W v w x l (h x m)

all_keep : (W W' : List Rec) (v : Vec) (xs : List Id) → ((r : Rec) → r ∈ W → r ∈ W') → AllBelow W v xs → AllBelow W' v xs
unfolding AllBelow
all_keep W W' v xs k h x m = below_keep W W' v x k (h x m)

pub all_nil : (W : List Rec) (v : Vec) → AllBelow W v []
unfolding AllBelow
all_nil W v x m = absurd (Memᴰ.not-nil m)

pub all_cons : (W : List Rec) (v : Vec) (y : Id) (xs : List Id) → Below W v y → AllBelow W v xs → AllBelow W v (y ∷ xs)
unfolding AllBelow
all_cons W v y xs b h x m = go (Memᴰ.cases_cons m)
  where
    go : (x ≡ y) ⊎ (x ∈ xs) → Below W v x
    go (inl e) = rw e b
    go (inr n) = h x n

all_append : (W : List Rec) (v : Vec) (ys xs : List Id) → AllBelow W v ys → AllBelow W v xs → AllBelow W v (ys ++ xs)
unfolding AllBelow
all_append W v ys xs g h x m = go (Memᴰ.append_cases ys m)
  where
    go : (x ∈ ys) ⊎ (x ∈ xs) → Below W v x
    go (inl n) = g x n
    go (inr n) = h x n

-- ---- the past of a record's writer is below the vector that it carries

same_id_lem : (x y : Id) → T (same_id x y) → x ≡ y
unfolding same_id
same_id_lem x y t =
    let a = and_yes (eqb x.key y.key) (eqb x.source y.source && eqb x.stamp y.stamp) t in
    let b = and_yes (eqb x.source y.source) (eqb x.stamp y.stamp) a.1 in
    let k : x.key ≡ y.key = eqb_yes a.0 in
    let s : x.source ≡ y.source = eqb_yes b.0 in
    let u : x.stamp ≡ y.stamp = eqb_yes b.1 in
    λ i. record { key = k i; source = s i; stamp = u i }

module _ (N : Net) (W : List Rec) (I : NetInv N W) where
  pub writer_below : (ws : List Write) → ((w : Write) → w ∈ ws → WriteInv W w) → (r : Rec) → r ∈ W → AllBelow W r.carried (writer_past ws r.id)
  unfolding writer_past
  writer_below [] h r n = all_nil W r.carried
  writer_below (w ∷ ws) h r n =
      let rest = writer_below ws (λ w m. h w (Memᴰ.tail m)) r n in
      cond_elim (AllBelow W r.carried) (same_id w.id r.id)
      (λ t. all_append W r.carried w.past (writer_past ws r.id) (here (h w (Memᴰ.head refl)) (same_id_lem w.id r.id t)) rest) (λ t. rest)
    where
      here : WriteInv W w → w.id ≡ r.id → AllBelow W r.carried w.past
      here k e = rw (I.once r k.rec n k.mem (sym (k.same ∙ e))) k.past

  pasts_below : (ws : List Write) → ((w : Write) → w ∈ ws → WriteInv W w) → (v : Vec) (ys : List Id) → AllBelow W v ys → AllBelow W v (with_pasts ws ys)
  unfolding with_pasts flat_map AllBelow
  pasts_below ws h v [] b = all_nil W v
  pasts_below ws h v (y ∷ ys) b =
      let c = b y (Memᴰ.head refl) in
      let p : AllBelow W c.rec.carried (writer_past ws y) = subst (λ z. AllBelow W c.rec.carried (writer_past ws z)) c.same (writer_below ws h c.rec c.mem) in
      all_cons W v y (writer_past ws y ++ with_pasts ws ys) c
      (all_append W v (writer_past ws y) (with_pasts ws ys) (all_up W c.rec.carried v (writer_past ws y) c.carried p) (pasts_below ws h v ys (λ x m. b x (Memᴰ.tail m))))

-- ---- any step of the network

module _ (N : Net) (W : List Rec) (N' : Net) (W' : List Rec) (L : Later N W N' W') where
  shows_frame : (k : ℕ) (a : Answer) → Shows W k a → Shows W' k a
  unfolding Shows
  shows_frame k a s y m = let r = s y m in (r.0, L.keep r.0 r.1, r.2, r.3, r.4)

  entry_frame : (x : Session) (e : Entry) → EntryInv N W x e → EntryInv N' W' x e
  unfolding below_keep
  entry_frame x e E = record {
    past = λ i l. rw L.setting (let a = E.past i l in let b = L.heard i (partition_of N.setting e.key) i in omega arith);
    covers = λ r w k t c. rw L.setting (covers r k t c (L.fresh r w));
    shows = shows_frame e.key e.says E.shows;
    fits = λ y m. let f = E.fits y m in (below_keep W W' x.page.gathered y L.keep f.0, f.1);
  }
    where
      covers : (r : Rec) → r.id.key ≡ e.key → r.id.stamp ≤ x.page.vec r.id.source → LeV r.carried x.page.vec →
          (r ∈ W) ⊎ ((r.id.source < width) × (N.heard r.id.source (partition_of N.setting r.id.key) r.id.source < r.id.stamp)) → Covers N.setting e.key e.says r.id
      covers r k t c (inl w) = E.covers r w k t c
      covers r k t c (inr f) =
          let a = E.past r.id.source f.0 in
          let b = subst (λ j. N.heard r.id.source (partition_of N.setting j) r.id.source < r.id.stamp) k f.1 in
          absurd (omega arith)

  pub session_frame : (h : Story) (x : Session) → SessionInv N W h x → SessionInv N' W' h x
  session_frame h x S = record {
    here = λ t. rw L.setting (S.here t);
    past = all_keep W W' x.vec h.past L.keep S.past;
    page = λ t. record { under = (S.page t).under; entries = λ e m. entry_frame x e ((S.page t).entries e m) };
    blank = S.blank;
  }

  pub write_frame : (w : Write) → WriteInv W w → WriteInv W' w
  write_frame w Q = record { rec = Q.rec; mem = L.keep Q.rec Q.mem; same = Q.same; past = all_keep W W' Q.rec.carried w.past L.keep Q.past }

-- ---- one session changes

pub set-session : (P : Story → Session → Type 0) (f : ℕ → Story) (g : ℕ → Session) (s : ℕ) (h : Story) (x : Session) →
    ((i : ℕ) → P (f i) (g i)) → P h x → (i : ℕ) → P (upd f s h i) (upd g s x i)
unfolding upd
set-session P f g s h x a b i = go (eqb i s)
  where
    go : (t : Bool) → P (cond t h (f i)) (cond t x (g i))
    go true = b
    go false = a i

-- ---- what the search shows

-- a record found, by the name that the answer shows
found-id : (k : ℕ) (r : Rec) → T (of_key k r) → ◌≡◌ {A = Id} r.id (record { key = k; source = r.id.source; stamp = r.id.stamp })
unfolding of_key
found-id k r t = let e : r.id.key ≡ k = eqb_yes t in λ i. record { key = e i; source = r.id.source; stamp = r.id.stamp }

-- it covers each stored record that fits
search_covers : (c : Setting) (k : ℕ) (fit : Rec → Bool) → ((r : Rec) → T (fit r) → T (of_key k r)) → (l : List Rec) (o : Option Rec) → NewestOf c fit l o →
    (r : Rec) → r ∈ l → T (fit r) → Covers c k (shown o) r.id
unfolding NewestOf shown shown_in Covers
search_covers c k fit f l none n r m t = absurd (n r m t)
search_covers c k fit f l (some q) n r m t =
    (record { key = k; source = q.id.source; stamp = q.id.stamp }, Memᴰ.head refl, subst (λ y. NoOlder c y r.id) (found-id k q (f q n.1)) (n.2 r m t))

module _ (N : Net) (W : List Rec) (I : NetInv N W) where
  source_real : (r : Rec) → r ∈ W → r.id.source < width
  source_real r w = let a = I.real r w in let b = I.few in omega arith

  pub search_shows : (k : ℕ) (fit : Rec → Bool) → ((r : Rec) → T (fit r) → T (of_key k r)) → (m p : ℕ) (o : Option Rec) →
      NewestOf N.setting fit (N.store m p) o → Shows W k (shown o)
  unfolding NewestOf shown Shows shown_in
  search_shows k fit f m p none n y i = absurd (Memᴰ.not-nil i)
  search_shows k fit f m p (some r) n y i = (r, I.known r m p n.0, found-id k r (f r n.1) ∙ sym (Memᴰ.eq_of_singleton i), refl, refl)

  -- what it shows is below whatever is raised by it
  search_below : (k : ℕ) (fit : Rec → Bool) → ((r : Rec) → T (fit r) → T (of_key k r)) → (m p : ℕ) (v : Vec) (o : Option Rec) →
      NewestOf N.setting fit (N.store m p) o → (y : Id) → y ∈ shown_in k (shown o) → (b : Below W (raised_by v o) y) × T (fit b.rec)
  unfolding NewestOf shown shown_in raised_by
  search_below k fit f m p v none n y i = absurd (Memᴰ.not-nil i)
  search_below k fit f m p v (some r) n y i = (
    record {
      rec = r;
      mem = w;
      same = found-id k r (f r n.1) ∙ sym (Memᴰ.eq_of_singleton i);
      real = source_real r w;
      heard = raised-stamp v r.carried r.id.source r.id.stamp;
      carried = raised-carried v r.carried r.id.source r.id.stamp;
    },
    n.1,
  )
    where
      w : r ∈ W
      w = I.known r m p n.0

module _ (N : Net) (W : List Rec) (I : NetInv N W) (h : Story) (x : Session) (S : SessionInv N W h x) (open-now : T x.is_open) where
  -- the node of key k at the session's site
  abbrev heard_here : ℕ → Vec
  heard_here k = N.heard x.site (partition_of N.setting k)

  abbrev store_here : ℕ → List Rec
  store_here k = N.store x.site (partition_of N.setting k)

  stored_here : (k : ℕ) (r : Rec) → r ∈ W → r.id.key ≡ k → r.id.stamp ≤ heard_here k r.id.source → r ∈ store_here k
  stored_here k r w e l =
      subst (λ j. r ∈ store_here j) e
      (heard-stored N W I r w x.site (S.here open-now) (subst (λ j. r.id.stamp ≤ heard_here j r.id.source) (sym e) l))

  -- GET: what lies below the session's vector has been heard where it is served
  get_heard : (k : ℕ) → T (get_ready x.site (heard_here k) x.vec) → (r : Rec) → r ∈ W → r.id.key ≡ k → r.id.stamp ≤ x.vec r.id.source → r.id.stamp ≤ heard_here k r.id.source
  unfolding get_ready
  get_heard k t r w e l = go (at_most_but_le x.site x.vec (heard_here k) t r.id.source (source_real N W I r w))
    where
      go : (r.id.source ≡ x.site) ⊎ (x.vec r.id.source ≤ heard_here k r.id.source) → r.id.stamp ≤ heard_here k r.id.source
      go (inl u) =
          let a = subst (λ j. r.id.stamp ≤ N.heard r.id.source (partition_of N.setting j) r.id.source) e (I.own r w) in
          subst (λ m. r.id.stamp ≤ N.heard m (partition_of N.setting k) r.id.source) u a
      go (inr u) = omega arith

  pub get_covers : (k : ℕ) → T (get_ready x.site (heard_here k) x.vec) → CoversAll N.setting k (shown (found N.setting (of_key k) (store_here k))) h.past
  unfolding CoversAll AllBelow of_key
  get_covers k t y m e =
      let b = S.past y m in
      let f : b.rec.id.key ≡ k = ap (λ i. i.key) b.same ∙ e in
      let s = stored_here k b.rec b.mem f (get_heard k t b.rec b.mem f b.heard) in
      subst (Covers N.setting k (shown (found N.setting (of_key k) (store_here k)))) b.same
      (search_covers N.setting k (of_key k) (λ r u. u) (store_here k) (found N.setting (of_key k) (store_here k)) (found_is N.setting (of_key k) (store_here k)) b.rec s
      (yes_eqb b.rec.id.key k f))

  pub get_session : (ws : List Write) → ((w : Write) → w ∈ ws → WriteInv W w) → (k : ℕ) → T (not x.page.is_open) → (o : Option Rec) → NewestOf N.setting (of_key k) (store_here k) o →
      SessionInv N W (record { past = with_pasts ws (shown_in k (shown o)) ++ h.past; page = h.page }) (with_vec x (raised_by x.vec o))
  unfolding AllBelow
  get_session ws Q k u o n = record {
    here = λ t. S.here open-now;
    past = all_append W v (with_pasts ws (shown_in k (shown o))) h.past
        (pasts_below N W I ws Q v (shown_in k (shown o)) (λ y i. (search_below N W I k (of_key k) (λ r t. t) x.site (partition_of N.setting k) x.vec o n y i).0))
        (all_up W x.vec v h.past (raised_by_up x.vec o) S.past);
    page = λ t. absurd (T_not x.page.is_open t u);
    blank = S.blank;
  }
    where
      v : Vec
      v = raised_by x.vec o

  -- BEGIN
  pub begin_session : (v : Vec) (ks : List ℕ) → SessionInv N W (record { past = h.past; page = [] }) (with_page x (begun v x.vec ks))
  unfolding begun
  begin_session v ks = record {
    here = λ t. S.here open-now;
    past = S.past;
    page = λ t. record { under = larger_right v x.vec; entries = λ e m. absurd (Memᴰ.not-nil m) };
    blank = λ t. refl;
  }

  -- READ
  module _ (k : ℕ) (ready : T (read_ready (heard_here k) x.page.vec)) (paged : T x.page.is_open) (o : Option Rec) (n : NewestOf N.setting (fits_page k x.page.vec) (store_here k) o) where
    abbrev fit : Rec → Bool
    fit = fits_page k x.page.vec

    fits-key : (r : Rec) → T (fit r) → T (of_key k r)
    unfolding fits_page
    fits-key r t = (and_yes (of_key k r) (at_most r.carried x.page.vec) t).0

    page-heard : LeV x.page.vec (heard_here k)
    unfolding read_ready
    page-heard = at_most_le x.page.vec (heard_here k) ready

    read_past : (i : ℕ) → i < width → x.page.vec i ≤ N.heard i (partition_of N.setting k) i
    unfolding LeV
    read_past i l =
        let a = page-heard i l in
        let b = ascending_le (N.chan i x.site (partition_of N.setting k)) (heard_here k i) (N.heard i (partition_of N.setting k) i) (I.order i x.site (partition_of N.setting k)) in
        omega arith

    read-covers : (r : Rec) → r ∈ W → r.id.key ≡ k → r.id.stamp ≤ x.page.vec r.id.source → LeV r.carried x.page.vec → Covers N.setting k (shown o) r.id
    unfolding LeV fits_page of_key
    read-covers r w e l c =
        let a = page-heard r.id.source (source_real N W I r w) in
        let s = stored_here k r w e (omega arith) in
        search_covers N.setting k fit fits-key (store_here k) o n r s (yes_and (eqb r.id.key k) (at_most r.carried x.page.vec) (yes_eqb r.id.key k e) (le-at_most r.carried x.page.vec c))

    abbrev read_now : Session
    read_now = with_page x (read_on x.page k o)

    read_this : EntryInv N W read_now (record { key = k; says = shown o })
    unfolding read_on
    read_this = record {
      past = read_past;
      covers = read-covers;
      shows = search_shows N W I k fit fits-key x.site (partition_of N.setting k) o n;
      fits = λ y i.
          let b = search_below N W I k fit fits-key x.site (partition_of N.setting k) x.page.gathered o n y i in
          (b.0, at_most_le b.0.rec.carried x.page.vec (unfold fits_page in (and_yes (of_key k b.0.rec) (at_most b.0.rec.carried x.page.vec) b.1).1));
    }

    read_before : (e : Entry) → EntryInv N W x e → EntryInv N W read_now e
    unfolding read_on below_up
    read_before e E = record {
      past = E.past;
      covers = E.covers;
      shows = E.shows;
      fits = λ y i. let f = E.fits y i in (below_up W x.page.gathered (raised_by x.page.gathered o) y (raised_by_up x.page.gathered o) f.0, f.1);
    }

    pub read-session : SessionInv N W (record { past = h.past; page = record { key = k; says = shown o } ∷ h.page }) read_now
    unfolding read_on
    read-session = record {
      here = λ t. S.here open-now;
      past = S.past;
      page = λ t. record { under = (S.page paged).under; entries = λ e m. entry e (Memᴰ.cases_cons m) };
      blank = λ t. absurd t;
    }
      where
        entry : (e : Entry) → (e ≡ record { key = k; says = shown o }) ⊎ (e ∈ h.page) → EntryInv N W read_now e
        entry e (inl z) = subst (EntryInv N W read_now) (sym z) read_this
        entry e (inr m) = read_before e ((S.page paged).entries e m)

  -- END
  gathered-below : (es : List Entry) → ((e : Entry) → e ∈ es → EntryInv N W x e) → AllBelow W x.page.gathered (shown_on es)
  unfolding shown_on flat_map AllBelow
  gathered-below [] E y m = absurd (Memᴰ.not-nil m)
  gathered-below (e ∷ es) E y m = go (gathered-below es (λ d n. E d (Memᴰ.tail n)) y) (Memᴰ.append_cases (shown_in e.key e.says) m)
    where
      go : (y ∈ shown_on es → Below W x.page.gathered y) → (y ∈ shown_in e.key e.says) ⊎ (y ∈ shown_on es) → Below W x.page.gathered y
      go r (inl n) = ((E e (Memᴰ.head refl)).fits y n).0
      go r (inr n) = r n

  pub end_session : (ws : List Write) → ((w : Write) → w ∈ ws → WriteInv W w) → T x.page.is_open →
      SessionInv N W (record { past = with_pasts ws (shown_on h.page) ++ h.past; page = [] }) (with_page (with_vec x (larger x.vec x.page.gathered)) no_page)
  unfolding no_page
  end_session ws Q t = record {
    here = λ u. S.here open-now;
    past = all_append W v (with_pasts ws (shown_on h.page)) h.past
        (pasts_below N W I ws Q v (shown_on h.page) (all_up W x.page.gathered v (shown_on h.page) (larger_right x.vec x.page.gathered) (gathered-below h.page (S.page t).entries)))
        (all_up W x.vec v h.past (larger_left x.vec x.page.gathered) S.past);
    page = λ f. absurd f;
    blank = λ u. refl;
  }
    where
      v : Vec
      v = larger x.vec x.page.gathered
