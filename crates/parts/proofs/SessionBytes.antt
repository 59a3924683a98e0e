-- The laws of a session's bytes: what is put is what stands in them. In order: the marks, the bytes before them, the vectors, all.
use Prim.Native.Nat.{ℕ, suc, ◌+◌, ◌*◌, ◌≤◌, ◌<◌}
use native.Mathlib.Nat.{add-zero, zero-add}
use native.Mathlib.Omega.{arith}
use mathlib.Core.Path.{◌≡◌, refl, sym, ap, ap₂, ◌∙◌}
use mathlib.Core.Bool.{Bool, true, false}
use mathlib.Core.List.{List, [], ◌∷◌}
use lib.Dec.{eqb}
use lib.ListN.{length}
use Rattle.codec.specs.Le.{load, put, span, Apart}
use Rattle.codec.specs.Fields.{put_all}
use Rattle.codec.specs.FieldTests.{Shows}
use Rattle.codec.specs.Tabulate.{tabulate}
use Rattle.codec.proofs.Le.{length-put, load-put, load-put-other}
use Rattle.codec.proofs.Fields.{length-put_all, shows}
use Rattle.codec.proofs.Tabulate.{tab_ext}
use Rattle.vector.specs.Entries.{load_vec, put_vec}
use Rattle.vector.proofs.Entries.{length-put_vec, load-put_vec-other, load_vec-put_vec, load_vec-put_vec-other}
use Rattle.protocol.specs.State.{Mark, Session}
use Rattle.record.proofs.RecordBytes.{load_vec_ext}
use Rattle.parts.specs.Session.{mark_at, session_in, flag, put_marks, head_fields, put_session}
use Rattle.parts.specs.Fits.{FitsMarks, FitsSession}

flag-shown : (b : Bool) → eqb (flag b) 1 ≡ b
flag-shown true = refl
flag-shown false = refl

flag-lt : (b : Bool) → flag b < 256
flag-lt true = omega arith
flag-lt false = omega arith

-- ---- the marks

load-put_marks-other : (b : List ℕ) (i : ℕ) (ms : List Mark) (w j : ℕ) → Apart j w (8 + i) (length ms) → Apart j w (16 + i) (length ms) → load w (put_marks b i ms) j ≡ load w b j
unfolding put_marks
load-put_marks-other b i [] w j o o' = refl
load-put_marks-other b i (m ∷ ms) w j o o' =
    let u = put 1 b (8 + i) m.key in
    load-put_marks-other (put 1 u (16 + i) (flag m.read)) (suc i) ms w j (λ k p q r s. o k p q (omega arith) (omega arith)) (λ k p q r s. o' k p q (omega arith) (omega arith))
    ∙ load-put-other w 1 u (16 + i) (flag m.read) j (λ k p q r s. o' k p q r (omega arith))
    ∙ load-put-other w 1 b (8 + i) m.key j (λ k p q r s. o k p q r (omega arith))

-- the first of the marks that are put from place i on
mark_put : (b : List ℕ) (i : ℕ) (m : Mark) (ms : List Mark) → length b ≡ 128 → i + length ms < 8 → m.key < 256 → mark_at (put_marks b i (m ∷ ms)) i ≡ m
unfolding mark_at put_marks span
mark_put b i m ms l h small =
    let u = put 1 b (8 + i) m.key in
    let v = put 1 u (16 + i) (flag m.read) in
    let key : load 1 (put_marks v (suc i) ms) (8 + i) ≡ m.key =
    load-put_marks-other v (suc i) ms 1 (8 + i) (λ k p q r s. omega arith) (λ k p q r s. omega arith)
    ∙ load-put-other 1 1 u (16 + i) (flag m.read) (8 + i) (λ k p q r s. omega arith)
    ∙ load-put 1 b (8 + i) m.key (omega arith) small in
    let read : load 1 (put_marks v (suc i) ms) (16 + i) ≡ flag m.read =
    load-put_marks-other v (suc i) ms 1 (16 + i) (λ k p q r s. omega arith) (λ k p q r s. omega arith)
    ∙ load-put 1 u (16 + i) (flag m.read) (omega (arith, length-put 1 b (8 + i) m.key)) (flag-lt m.read) in
    let both = ap (λ k. eqb k 1) read ∙ flag-shown m.read in
    λ z. record { key = key z; read = both z }

marks-put : (b : List ℕ) (i : ℕ) (ms : List Mark) → length b ≡ 128 → i + length ms ≤ 8 → FitsMarks ms → tabulate (length ms) (λ k. mark_at (put_marks b i ms) (i + k)) ≡ ms
unfolding tabulate put_marks
marks-put b i [] l h small = refl
marks-put b i (m ∷ ms) l h small =
    let u = put 1 b (8 + i) m.key in
    let v = put 1 u (16 + i) (flag m.read) in
    let first = ap (mark_at (put_marks b i (m ∷ ms))) (add-zero i) ∙ mark_put b i m ms l (omega arith) small.0 in
    let same : (k : ℕ) → i + suc k ≡ suc i + k = λ k. omega arith in
    let rest = tab_ext (length ms) (λ k. mark_at (put_marks v (suc i) ms) (i + suc k)) (λ k. mark_at (put_marks v (suc i) ms) (suc i + k)) (λ k q. ap (mark_at (put_marks v (suc i) ms)) (same k)) in
    ap₂ ◌∷◌ first
    (rest ∙ marks-put v (suc i) ms (length-put 1 u (16 + i) (flag m.read) ∙ length-put 1 b (8 + i) m.key ∙ l) (omega arith) small.1)

-- ---- the bytes before the marks

abbrev with_vecs : Session → List ℕ → List ℕ
with_vecs x u = put_vec (put_vec (put_vec u 32 x.vec) 64 x.page.vec) 96 x.page.gathered

module _ (x : Session) (b : List ℕ) (l : length b ≡ 128) (small : FitsSession x) where
  stands : Shows 0 (put_all 0 (head_fields x) b) (head_fields x)
  unfolding span
  stands =
      shows 0 4 (head_fields x) b (omega arith) tt tt
      (flag-lt x.is_open, (small.site, (flag-lt x.page.is_open, (omega (arith, small.count), tt))))

  length_vecs : length (with_vecs x (put_all 0 (head_fields x) b)) ≡ 128
  length_vecs = simp (length-put_vec, length-put) l

  -- a load that reaches none of the marks
  load_apart : (w j : ℕ) → Apart j w 8 16 → load w (put_session x b) j ≡ load w (with_vecs x (put_all 0 (head_fields x) b)) j
  unfolding put_session
  load_apart w j o =
      load-put_marks-other (with_vecs x (put_all 0 (head_fields x) b)) 0 x.page.marks w j
      (λ k p q r s. o k p q (omega arith) (omega (arith, small.count))) (λ k p q r s. o k p q (omega arith) (omega (arith, small.count)))

  load_head : (j : ℕ) → j < 4 → load 1 (put_session x b) j ≡ load 1 (put_all 0 (head_fields x) b) j
  load_head j h =
      let u = put_all 0 (head_fields x) b in
      load_apart 1 j (λ k p q r s. omega arith)
      ∙ load-put_vec-other 1 (put_vec (put_vec u 32 x.vec) 64 x.page.vec) 96 x.page.gathered j (λ k p q r s. omega arith)
      ∙ load-put_vec-other 1 (put_vec u 32 x.vec) 64 x.page.vec j (λ k p q r s. omega arith)
      ∙ load-put_vec-other 1 u 32 x.vec j (λ k p q r s. omega arith)

  -- ---- the vectors

  vec_apart : (j : ℕ) → 24 ≤ j → load_vec (put_session x b) j ≡ load_vec (with_vecs x (put_all 0 (head_fields x) b)) j
  vec_apart j h = load_vec_ext (put_session x b) (with_vecs x (put_all 0 (head_fields x) b)) j (λ i g. load_apart 8 (j + 8 * i) (λ k p q r s. omega arith))

  module _ (u : List ℕ) (g : length u ≡ 128) where
    vec_first : load_vec (with_vecs x u) 32 ≡ x.vec
    vec_first =
        load_vec-put_vec-other (put_vec (put_vec u 32 x.vec) 64 x.page.vec) 96 x.page.gathered 32 (λ k p q r s. omega arith)
        ∙ load_vec-put_vec-other (put_vec u 32 x.vec) 64 x.page.vec 32 (λ k p q r s. omega arith)
        ∙ load_vec-put_vec u 32 x.vec (omega arith) small.vec.below small.vec.beyond

    vec_second : load_vec (with_vecs x u) 64 ≡ x.page.vec
    vec_second =
        load_vec-put_vec-other (put_vec (put_vec u 32 x.vec) 64 x.page.vec) 96 x.page.gathered 64 (λ k p q r s. omega arith)
        ∙ load_vec-put_vec (put_vec u 32 x.vec) 64 x.page.vec (omega (arith, length-put_vec u 32 x.vec)) small.page.below small.page.beyond

    vec_third : load_vec (with_vecs x u) 96 ≡ x.page.gathered
    vec_third =
        let v = put_vec (put_vec u 32 x.vec) 64 x.page.vec in
        load_vec-put_vec v 96 x.page.gathered
        (omega (arith, length-put_vec (put_vec u 32 x.vec) 64 x.page.vec, length-put_vec u 32 x.vec)) small.gathered.below small.gathered.beyond

  -- ---- all

  marks-shown : tabulate (load 1 (put_session x b) 3) (mark_at (put_session x b)) ≡ x.page.marks
  unfolding put_session
  marks-shown =
      let ms = x.page.marks in
      let v = with_vecs x (put_all 0 (head_fields x) b) in
      ap (λ n. tabulate n (mark_at (put_session x b))) (load_head 3 (omega arith) ∙ stands.1.1.1.0)
      ∙ tab_ext (length ms) (mark_at (put_marks v 0 ms)) (λ k. mark_at (put_marks v 0 ms) (0 + k)) (λ k q. ap (mark_at (put_marks v 0 ms)) (sym (zero-add k)))
      ∙ marks-put v 0 ms length_vecs (omega (arith, small.count)) small.marks

  pub session-put_session : session_in (put_session x b) ≡ x
  unfolding session_in
  session-put_session =
      let u = put_all 0 (head_fields x) b in
      let long : length u ≡ 128 = length-put_all 0 (head_fields x) b ∙ l in
      let is_open = ap (λ k. eqb k 1) (load_head 0 (omega arith) ∙ stands.0) ∙ flag-shown x.is_open in
      let site = load_head 1 (omega arith) ∙ stands.1.0 in
      let paged = ap (λ k. eqb k 1) (load_head 2 (omega arith) ∙ stands.1.1.0) ∙ flag-shown x.page.is_open in
      let vec = vec_apart 32 (omega arith) ∙ vec_first u long in
      let page = vec_apart 64 (omega arith) ∙ vec_second u long in
      let gathered = vec_apart 96 (omega arith) ∙ vec_third u long in
      λ z.
      record {
        is_open = is_open z;
        site = site z;
        vec = vec z;
        page = record { is_open = paged z; vec = page z; marks = marks-shown z; gathered = gathered z };
      }
