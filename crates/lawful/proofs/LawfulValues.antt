-- Lawful values as facts. In order: tests, a time's bytes, vectors and what raises them, levels, records, messages, pages, sessions, and a state. For each kind
-- the facts, how they follow from the test and give it back, and that the value fits its bytes. A vector's facts say more than the test: it has no
-- entry beyond the sites, at any number. Vectors that are read from bytes are so.
use Prim.Native.Nat.{ℕ, ◌≤◌, ◌<◌}
use native.Mathlib.Omega.{arith}
use mathlib.Core.Path.{◌≡◌, sym, subst}
use mathlib.Core.Bool.{Bool, true}
use mathlib.Core.List.{List, [], ◌∷◌}
use lib.Dec.{T, ltb}
use lib.ListN.{length}
use mir.Facts.{and_yes, ltb_yes, leb_yes, yes_ltb, yes_leb}
use Rattle.codec.specs.Tests.{every}
use Rattle.codec.proofs.Tests.{implies, yes_implies, every_yes, yes_every}
use Rattle.vector.proofs.Entries.{Narrow}
use Rattle.protocol.specs.Record.{Setting, Rec, Msg}
use Rattle.protocol.specs.Times.{time_limit}
use Rattle.protocol.specs.State.{Mark, Page, Session, State}
use Rattle.protocol.specs.Needs.{keys_lawful, distinct}
use Rattle.protocol.specs.Past.{◌∈◌}
use Rattle.record.proofs.Ranges.{LawfulMsg, LawfulRec, LawfulVec, vec_facts, vec-fits, vec_lawful_lem}
use Rattle.parts.specs.Fits.{FitsMarks, FitsSession}
use Rattle.lawful.specs.LawfulValues.{keys_of, page_lawful, session_lawful}

-- ---- pages: `keys` holds of closed pages too

pub record LawfulPage (c : Setting) (g : Page) : Type 0 where
  pub count : length g.marks ≤ 8
  pub keys : FitsMarks g.marks
  pub used : T g.is_open → (0 < length g.marks) × T (keys_lawful (keys_of g.marks)) × T (distinct (keys_of g.marks))
  pub vec : LawfulVec c g.vec
  pub gathered : LawfulVec c g.gathered

pub marks_fit : (ms : List Mark) → T (keys_lawful (keys_of ms)) → FitsMarks ms
unfolding keys_lawful keys_of
marks_fit [] t = tt
marks_fit (m ∷ ms) t =
    let a = and_yes (ltb m.key 64) (keys_lawful (keys_of ms)) t in
    let k : m.key < 64 = ltb_yes a.0 in (omega arith, marks_fit ms a.1)

module _ (c : Setting) (g : Page) where
  abbrev some_keys : Bool
  some_keys = every (ltb 0 (length g.marks) ∷ keys_lawful (keys_of g.marks) ∷ distinct (keys_of g.marks) ∷ [])

  pub page_facts : T (page_lawful c g) → FitsMarks g.marks → Narrow g.vec → Narrow g.gathered → LawfulPage c g
  unfolding page_lawful
  page_facts t keys short short' =
      let (few, (used, (vec, (gathered, _)))) = every_yes _ t in
      record {
        count = leb_yes few;
        keys = keys;
        used = λ h.
            let (some, (lawful, (apart, _))) = every_yes _ (implies g.is_open some_keys used h) in (ltb_yes some, lawful, apart);
        vec = vec_facts c g.vec vec short;
        gathered = vec_facts c g.gathered gathered short';
      }

  pub page_lawful_lem : LawfulPage c g → T (page_lawful c g)
  unfolding page_lawful
  page_lawful_lem G =
      let used = yes_implies g.is_open some_keys (λ h. let u = G.used h in yes_every _ (yes_ltb u.0, (u.1, (u.2, tt)))) in
      yes_every _ (yes_leb G.count, (used, (vec_lawful_lem c g.vec G.vec, (vec_lawful_lem c g.gathered G.gathered, tt))))

-- ---- sessions

pub record LawfulSession (c : Setting) (x : Session) : Type 0 where
  pub site : x.site < 256
  pub here : T x.is_open → x.site < c.sites
  pub vec : LawfulVec c x.vec
  pub page : LawfulPage c x.page

module _ (c : Setting) (x : Session) where
  pub session_facts : T (session_lawful c x) → x.site < 256 → Narrow x.vec → (T (page_lawful c x.page) → LawfulPage c x.page) → LawfulSession c x
  unfolding session_lawful
  session_facts t site short page =
      let (here, (vec, (lawful, _))) = every_yes _ t in
      record {
        site = site;
        here = λ h. ltb_yes (implies x.is_open (ltb x.site c.sites) here h);
        vec = vec_facts c x.vec vec short;
        page = page lawful;
      }

  pub session_lawful_lem : LawfulSession c x → T (session_lawful c x)
  unfolding session_lawful
  session_lawful_lem X =
      let here = yes_implies x.is_open (ltb x.site c.sites) (λ h. yes_ltb (X.here h)) in
      yes_every _ (here, (vec_lawful_lem c x.vec X.vec, (page_lawful_lem c x.page X.page, tt)))

  -- two of the tests by themselves
  pub lawful_here : T (session_lawful c x) → x.is_open ≡ true → x.site < c.sites
  unfolding session_lawful
  lawful_here t o = let (here, _) = every_yes _ t in ltb_yes (implies x.is_open (ltb x.site c.sites) here (subst T (sym o) tt))

  pub lawful_count : T (session_lawful c x) → length x.page.marks ≤ 8
  unfolding session_lawful page_lawful
  lawful_count t =
      let (_, (_, (page, _))) = every_yes _ t in
      let (few, _) = every_yes _ page in
      leb_yes few

  pub session-fits : c.sites ≤ 4 → LawfulSession c x → FitsSession x
  session-fits few X = record {
    site = X.site;
    vec = vec-fits c x.vec few X.vec;
    page = vec-fits c x.page.vec few X.page.vec;
    gathered = vec-fits c x.page.gathered few X.page.gathered;
    count = X.page.count;
    marks = X.page.keys;
  }

-- ---- a state, where sites and partitions are below 4 and sessions below 16

pub record LawfulState (S : State) : Type 0 where
  pub sites : S.net.setting.sites ≤ 4
  pub partition : 0 < S.net.setting.partitions
  pub partitions : S.net.setting.partitions ≤ 4
  pub session : (s : ℕ) → s < 16 → LawfulSession S.net.setting (S.session s)
  pub clock : (m p : ℕ) → m < 4 → p < 4 → S.net.clock m p < time_limit
  pub heard : (m p : ℕ) → m < 4 → p < 4 → LawfulVec S.net.setting (S.net.heard m p)
  pub store : (m p : ℕ) → m < 4 → p < 4 → (r : Rec) → r ∈ S.net.store m p → LawfulRec S.net.setting p r
  pub held : (m p : ℕ) → m < 4 → p < 4 → length (S.net.store m p) ≤ 32
  pub chan : (i m p : ℕ) → i < 4 → p < 4 → (x : Msg) → x ∈ S.net.chan i m p → LawfulMsg S.net.setting i p x
  pub wait : (i m p : ℕ) → i < 4 → p < 4 → length (S.net.chan i m p) ≤ 8
