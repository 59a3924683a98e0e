-- A session's bytes stay well formed when a lawful session is put. In order: the bytes that are flags, a flag that is put, a put elsewhere, the marks,
-- the session. Marks beyond the page keep their bytes, which were flags before.
use Prim.Native.Nat.{ℕ, suc, ◌+◌, ◌≤◌, ◌<◌}
use native.Mathlib.Decide.{ℕ_discrete}
use native.Mathlib.Omega.{arith}
use mathlib.Core.Path.{◌≡◌, sym, subst, ◌∙◌}
use mathlib.Core.Bool.{Bool, true, false}
use mathlib.Core.List.{List, [], ◌∷◌}
use lib.Dec.{T}
use lib.ListN.{length}
use Rattle.codec.specs.Le.{load, put, span, Apart}
use Rattle.codec.proofs.Le.{length-put, load-put, load-put-other}
use Rattle.vector.specs.Vec.{Vec}
use Rattle.vector.specs.Entries.{put_vec}
use Rattle.vector.proofs.Entries.{length-put_vec, load-put_vec-other}
use Rattle.protocol.specs.Record.{Setting}
use Rattle.protocol.specs.State.{Mark, Session}
use Rattle.parts.specs.Session.{flag, put_marks, put_session}
use Rattle.parts.proofs.SessionBytes.{session-put_session}
use Rattle.lawful.specs.LawfulValues.{session_lawful}
use Rattle.lawful.proofs.LawfulValues.{LawfulSession, session_lawful_lem, session-fits}
use Rattle.lawful.proofs.Facts.{SessionFacts}

record Flags (b : List ℕ) : Type 0 where
  is_open : load 1 b 0 < 2
  paged : load 1 b 2 < 2
  marks : (i : ℕ) → i < 8 → load 1 b (16 + i) < 2

-- ---- a flag that is put

flag-lt : (y : Bool) → flag y < 2
flag-lt true = omega arith
flag-lt false = omega arith

load-flag : (b : List ℕ) (at : ℕ) (y : Bool) (j : ℕ) → at < length b → load 1 b j < 2 → load 1 (put 1 b at (flag y)) j < 2
unfolding span
load-flag b at y j h g = go (ℕ_discrete j at)
  where
    go : Dec (j ≡ at) → load 1 (put 1 b at (flag y)) j < 2
    go (yes e) = rw e (rw (load-put 1 b at (flag y) (omega arith) (omega (arith, flag-lt y))) (flag-lt y))
    go (no e) = rw (load-put-other 1 1 b at (flag y) j (λ k u v w z. omega arith)) g

flags_flag : (b : List ℕ) (at : ℕ) (y : Bool) → at < length b → Flags b → Flags (put 1 b at (flag y))
flags_flag b at y h F = record {
  is_open = load-flag b at y 0 h F.is_open;
  paged = load-flag b at y 2 h F.paged;
  marks = λ i g. load-flag b at y (16 + i) h (F.marks i g);
}

-- ---- a put of n bytes elsewhere

module _ (b : List ℕ) (at n : ℕ) (first : Apart 0 1 at n) (third : Apart 2 1 at n) (others : (i : ℕ) → i < 8 → Apart (16 + i) 1 at n) where
  flags_elsewhere : (u : List ℕ) → ((j : ℕ) → Apart j 1 at n → load 1 u j ≡ load 1 b j) → Flags b → Flags u
  flags_elsewhere u same F = record {
    is_open = rw (same 0 first) F.is_open;
    paged = rw (same 2 third) F.paged;
    marks = λ i h. rw (same (16 + i) (others i h)) (F.marks i h);
  }

flags_byte : (b : List ℕ) (at x : ℕ) → Apart 0 1 at 1 → Apart 2 1 at 1 → ((i : ℕ) → i < 8 → Apart (16 + i) 1 at 1) → Flags b → Flags (put 1 b at x)
flags_byte b at x o o' o'' = flags_elsewhere b at 1 o o' o'' (put 1 b at x) (λ j. load-put-other 1 1 b at x j)

flags_vec : (b : List ℕ) (at : ℕ) (v : Vec) → 24 ≤ at → Flags b → Flags (put_vec b at v)
flags_vec b at v h =
    flags_elsewhere b at 32 (λ k p q r s. omega arith) (λ k p q r s. omega arith) (λ i g k p q r s. omega arith) (put_vec b at v) (λ j. load-put_vec-other 1 b at v j)

-- ---- the marks

flags_marks : (b : List ℕ) (i : ℕ) (ms : List Mark) → length b ≡ 128 → i + length ms ≤ 8 → Flags b → Flags (put_marks b i ms)
unfolding put_marks
flags_marks b i [] l h F = F
flags_marks b i (m ∷ ms) l h F =
    let u = put 1 b (8 + i) m.key in
    let long = length-put 1 b (8 + i) m.key ∙ l in
    let G = flags_byte b (8 + i) m.key (λ k p q r s. omega arith) (λ k p q r s. omega arith) (λ j g k p q r s. omega arith) F in
    flags_marks (put 1 u (16 + i) (flag m.read)) (suc i) ms (length-put 1 u (16 + i) (flag m.read) ∙ long) (omega arith)
    (flags_flag u (16 + i) m.read (omega arith) G)

-- ---- the session

module _ (c : Setting) (x : Session) (b : List ℕ) (l : length b ≡ 128) (few : c.sites ≤ 4) (ok : LawfulSession c x) where
  flags_session : Flags b → Flags (put_session x b)
  unfolding put_session
  flags_session F =
      let g = x.page in
      let b0 = put 1 b 0 (flag x.is_open) in
      let b1 = put 1 b0 1 x.site in
      let b2 = put 1 b1 2 (flag g.is_open) in
      let b3 = put 1 b2 3 (length g.marks) in
      let v = put_vec (put_vec (put_vec b3 32 x.vec) 64 g.vec) 96 g.gathered in
      let long : length v ≡ 128 = simp (length-put_vec, length-put) l in
      let G = flags_flag b 0 x.is_open (omega arith) F in
      let H = flags_byte b0 1 x.site (λ k p q r s. omega arith) (λ k p q r s. omega arith) (λ i h k p q r s. omega arith) G in
      let I = flags_flag b1 2 g.is_open (omega (arith, length-put 1 b0 1 x.site, length-put 1 b 0 (flag x.is_open))) H in
      let J = flags_byte b2 3 (length g.marks) (λ k p q r s. omega arith) (λ k p q r s. omega arith) (λ i h k p q r s. omega arith) I in
      let K = flags_vec (put_vec (put_vec b3 32 x.vec) 64 g.vec) 96 g.gathered (omega arith)
      (flags_vec (put_vec b3 32 x.vec) 64 g.vec (omega arith) (flags_vec b3 32 x.vec (omega arith) J)) in
      flags_marks v 0 g.marks long (omega (arith, ok.page.count)) K

  pub session-kept : SessionFacts c b → SessionFacts c (put_session x b)
  session-kept F =
      let G = flags_session (record { is_open = F.is_open; paged = F.paged; marks = F.marks }) in
      record {
        is_open = G.is_open;
        paged = G.paged;
        marks = G.marks;
        lawful = subst (λ y. T (session_lawful c y)) (sym (session-put_session x b l (session-fits c x few ok))) (session_lawful_lem c x ok);
      }
