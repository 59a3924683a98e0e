-- A session's 128 bytes: 0 open, 1 site, 2 page open, 3 page keys in use, 8–15 keys, 16–23 marks, 32–63 its vector, 64–95 the page's vector,
-- 96–127 what the page has gathered. What stands in them, and how they are written.
use Rattle.std.specs.Prelude.{ℕ, suc, ◌+◌, Bool, cond, List, [], ◌∷◌, eqb, length}
use Rattle.codec.specs.Le.{load, put}
use Rattle.codec.specs.Fields.{Field, field, put_all}
use Rattle.codec.specs.Tabulate.{tabulate}
use Rattle.vector.specs.Entries.{load_vec, put_vec}
use Rattle.protocol.specs.State.{Mark, Session}

unfoldable pub mark_at : List ℕ → ℕ → Mark
mark_at b i = record { key = load 1 b (8 + i); read = eqb (load 1 b (16 + i)) 1 }

unfoldable pub session_in : List ℕ → Session
session_in b = record {
  is_open = eqb (load 1 b 0) 1;
  site = load 1 b 1;
  vec = load_vec b 32;
  page = record { is_open = eqb (load 1 b 2) 1; vec = load_vec b 64; marks = tabulate (load 1 b 3) (mark_at b); gathered = load_vec b 96 };
}

abbrev pub flag : Bool → ℕ
flag b = cond b 1 0

-- the marks from place i on; those beyond the page keep their bytes
unfoldable pub put_marks : List ℕ → ℕ → List Mark → List ℕ
put_marks b i [] = b
put_marks b i (m ∷ ms) = put_marks (put 1 (put 1 b (8 + i) m.key) (16 + i) (flag m.read)) (suc i) ms

-- the bytes before the keys
abbrev pub head_fields : Session → List Field
head_fields x =
    field 0 1 (flag x.is_open) ∷ field 1 1 x.site ∷ field 2 1 (flag x.page.is_open) ∷ field 3 1 (length x.page.marks) ∷ []

unfoldable pub put_session : Session → List ℕ → List ℕ
put_session x b = put_marks (put_vec (put_vec (put_vec (put_all 0 (head_fields x) b) 32 x.vec) 64 x.page.vec) 96 x.page.gathered) 0 x.page.marks
