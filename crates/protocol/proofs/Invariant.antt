-- What every step keeps. In order: a channel's stamps go up; the network; what a vector answers for; a session and its page; the whole; and what
-- any step of the network leaves true (`Later`). W is the list of all records ever written: it is in no state.
use Prim.Native.Nat.{ℕ, ◌≤◌, ◌<◌}
use native.Mathlib.Omega.{arith}
use mathlib.Core.Path.{◌≡◌, ap}
use mathlib.Core.Logic.{◌⊎◌, inl, inr}
use mathlib.Core.Bool.{not}
use mathlib.Core.List.Memᴰ
use mathlib.Core.List.{List, [], ◌∷◌, ◌++◌}
use lib.Dec.{T}
use Rattle.vector.specs.Vec.{Vec, width}
use Rattle.vector.proofs.Vec.{LeV}
use Rattle.protocol.specs.Record.{partition_of, Id, Rec, Msg, Update, stamp_in}
use Rattle.protocol.specs.State.{Net, Session, State}
use Rattle.protocol.specs.Event.{Answer, values_of}
use Rattle.protocol.specs.Past.{◌∈◌, Write, Entry, Story, History, shown_in}
use Rattle.protocol.specs.Causal.{Covers}

-- ---- a channel: its stamps go up, from above lo to at most hi

unfoldable pub Ascending : ℕ → List Msg → ℕ → Type 0
Ascending lo [] hi = lo ≤ hi
Ascending lo (x ∷ l) hi = (lo < stamp_in x) × Ascending (stamp_in x) l hi

pub ascending_le : (l : List Msg) (lo hi : ℕ) → Ascending lo l hi → lo ≤ hi
unfolding Ascending
ascending_le [] lo hi h = h
ascending_le (x ∷ l) lo hi h = let k = ascending_le l (stamp_in x) hi h.1 in omega arith

pub ascending_up : (l : List Msg) (lo hi hi' : ℕ) → hi ≤ hi' → Ascending lo l hi → Ascending lo l hi'
unfolding Ascending
ascending_up [] lo hi hi' k h = omega arith
ascending_up (x ∷ l) lo hi hi' k h = (h.0, ascending_up l (stamp_in x) hi hi' k h.1)

pub ascending_snoc : (l : List Msg) (lo hi : ℕ) (x : Msg) → hi < stamp_in x → Ascending lo l hi → Ascending lo (l ++ (x ∷ [])) (stamp_in x)
unfolding Ascending
ascending_snoc [] lo hi x k h = omega arith
ascending_snoc (y ∷ l) lo hi x k h = (h.0, ascending_snoc l (stamp_in y) hi x k h.1)

pub ascending_above : (l : List Msg) (lo hi : ℕ) (x : Msg) → Ascending lo l hi → x ∈ l → lo < stamp_in x
unfolding Ascending
ascending_above [] lo hi x h m = absurd (Memᴰ.not-nil m)
ascending_above (y ∷ l) lo hi x h m = go (ascending_above l (stamp_in y) hi x h.1) (Memᴰ.cases_cons m)
  where
    go : (x ∈ l → stamp_in y < stamp_in x) → (x ≡ y) ⊎ (x ∈ l) → lo < stamp_in x
    go r (inl e) = let k = ap stamp_in e in omega (arith, h.0)
    go r (inr n) = omega (arith, h.0, r n)

-- between equal bounds it is empty: a node sends itself nothing
pub ascending_still : (l : List Msg) (t u : ℕ) → Ascending t l t → Ascending u l u
unfolding Ascending
ascending_still [] t u h = omega arith
ascending_still (x ∷ l) t u h = let k = ascending_le l (stamp_in x) t h.1 in absurd (omega arith)

-- ---- the network

-- the partition of a record's key
abbrev pub home : Net → Rec → ℕ
home N r = partition_of N.setting r.id.key

-- r is stored at site m, or on its way there
unfoldable pub Bound : Net → ℕ → Rec → Type 0
Bound N m r = (r ∈ N.store m (home N r)) ⊎ (Update r ∈ N.chan r.id.source m (home N r))

pub record NetInv (N : Net) (W : List Rec) : Type 0 where
  pub few : N.setting.sites ≤ width
  pub real : (r : Rec) → r ∈ W → r.id.source < N.setting.sites
  pub own : (r : Rec) → r ∈ W → r.id.stamp ≤ N.heard r.id.source (home N r) r.id.source
  pub bound : (r : Rec) → r ∈ W → (m : ℕ) → m < N.setting.sites → Bound N m r
  pub order : (i m p : ℕ) → Ascending (N.heard m p i) (N.chan i m p) (N.heard i p i)
  pub known : (r : Rec) (m p : ℕ) → r ∈ N.store m p → r ∈ W
  pub sent : (r : Rec) (i m p : ℕ) → Update r ∈ N.chan i m p → r ∈ W
  pub once : (r q : Rec) → r ∈ W → q ∈ W → r.id ≡ q.id → r ≡ q

-- a record up to whose stamp its source has been heard is stored
pub heard-stored : (N : Net) (W : List Rec) → NetInv N W → (r : Rec) → r ∈ W → (m : ℕ) → m < N.setting.sites →
    r.id.stamp ≤ N.heard m (home N r) r.id.source → r ∈ N.store m (home N r)
unfolding Bound stamp_in
heard-stored N W I r w m l h = go (I.bound r w m l)
  where
    go : Bound N m r → r ∈ N.store m (home N r)
    go (inl s) = s
    go (inr k) =
        let a = ascending_above (N.chan r.id.source m (home N r)) (N.heard m (home N r) r.id.source) (N.heard r.id.source (home N r) r.id.source) (Update r) (I.order r.id.source m (home N r)) k in
        absurd (omega arith)

-- ---- what a vector answers for: the record of that name is heard, and so is all that it carries

pub record Below (W : List Rec) (v : Vec) (x : Id) : Type 0 where
  pub rec : Rec
  pub mem : rec ∈ W
  pub same : rec.id ≡ x
  pub real : rec.id.source < width
  pub heard : rec.id.stamp ≤ v rec.id.source
  pub carried : LeV rec.carried v

unfoldable pub AllBelow : List Rec → Vec → List Id → Type 0
AllBelow W v xs = (x : Id) → x ∈ xs → Below W v x

-- ---- a session

-- what an answer shows is a record that was written
unfoldable pub Shows : List Rec → ℕ → Answer → Type 0
Shows W k a = (y : Id) → y ∈ shown_in k a → (r : Rec) × (r ∈ W) × (r.id ≡ y) × (r.quality ≡ (values_of a).quality) × (r.level ≡ (values_of a).level)

-- a served READ: the nodes that write its key are past the page's vector, what is up to the page's vector is covered, and what is shown
-- carries at most the page's vector and is gathered
pub record EntryInv (N : Net) (W : List Rec) (x : Session) (e : Entry) : Type 0 where
  pub past : (i : ℕ) → i < width → x.page.vec i ≤ N.heard i (partition_of N.setting e.key) i
  pub covers : (r : Rec) → r ∈ W → r.id.key ≡ e.key → r.id.stamp ≤ x.page.vec r.id.source → LeV r.carried x.page.vec → Covers N.setting e.key e.says r.id
  pub shows : Shows W e.key e.says
  pub fits : (y : Id) → y ∈ shown_in e.key e.says → (b : Below W x.page.gathered y) × LeV b.rec.carried x.page.vec

pub record PageInv (N : Net) (W : List Rec) (h : Story) (x : Session) : Type 0 where
  pub under : LeV x.vec x.page.vec
  pub entries : (e : Entry) → e ∈ h.page → EntryInv N W x e

pub record SessionInv (N : Net) (W : List Rec) (h : Story) (x : Session) : Type 0 where
  pub here : T x.is_open → x.site < N.setting.sites
  pub past : AllBelow W x.vec h.past
  pub page : T x.page.is_open → PageInv N W h x
  pub blank : T (not x.page.is_open) → h.page ≡ []

-- ---- the history: a write is a record whose writer's past is below what it carries, and every record was told of

pub record WriteInv (W : List Rec) (w : Write) : Type 0 where
  pub rec : Rec
  pub mem : rec ∈ W
  pub same : rec.id ≡ w.id
  pub past : AllBelow W rec.carried w.past

pub record Told (ws : List Write) (r : Rec) : Type 0 where
  pub write : Write
  pub mem : write ∈ ws
  pub same : write.id ≡ r.id
  pub quality : write.quality ≡ r.quality
  pub level : write.level ≡ r.level

pub record Inv (S : State) (h : History) : Type 0 where
  pub all : List Rec
  pub net : NetInv S.net all
  pub writes : (w : Write) → w ∈ h.writes → WriteInv all w
  pub told : (r : Rec) → r ∈ all → Told h.writes r
  pub sessions : (s : ℕ) → SessionInv S.net all (h.of s) (S.session s)

-- ---- what any step of the network leaves true

pub record Later (N : Net) (W : List Rec) (N' : Net) (W' : List Rec) : Type 0 where
  pub setting : N'.setting ≡ N.setting
  pub heard : (j p i : ℕ) → N.heard j p i ≤ N'.heard j p i
  pub keep : (r : Rec) → r ∈ W → r ∈ W'
  pub fresh : (r : Rec) → r ∈ W' → (r ∈ W) ⊎ ((r.id.source < width) × (N.heard r.id.source (home N r) r.id.source < r.id.stamp))
