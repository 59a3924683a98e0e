-- Fields that are put one by one, as data: how a long run of bytes is written, as a list of its fields. The tests of a list are in specs/FieldTests, the
-- laws in proofs/Fields.
use Rattle.std.specs.Prelude.{List, [], ◌∷◌, ℕ, ◌+◌}
use Rattle.codec.specs.Le.{put}

-- at byte `place` of the run, `width` bytes, that hold `value`
pub data Field : Type 0 where
  field : (place width value : ℕ) → Field

-- t with the fields put in order, from `at`
abbrev pub put_all : ℕ → List Field → List ℕ → List ℕ
put_all at [] t = t
put_all at (field p w x ∷ fs) t = put_all at fs (put w t (at + p) x)
