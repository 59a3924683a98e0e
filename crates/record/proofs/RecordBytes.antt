-- The laws of 48 bytes. In order: equal bytes say the same record and message; a record that is put, and a message: a load elsewhere, and what then
-- stands there.
use Prim.Native.Nat.{ℕ, ◌+◌, ◌*◌, ◌≤◌, ◌<◌}
use native.Mathlib.Nat.{add-zero}
use native.Mathlib.Omega.{arith}
use mathlib.Core.Path.{◌≡◌, refl, sym, ap, ◌∙◌, fun_ext}
use mathlib.Core.Bool.{Bool, true, false, cond}
use mathlib.Core.List.{List}
use lib.Dec.{T, ltb, eqb}
use lib.ListN.{length}
use mir.Facts.{ltb_yes}
use Rattle.codec.specs.Le.{load, span, Apart}
use Rattle.codec.specs.Level.{level_from, bits_of, FitsLevel}
use Rattle.codec.specs.Fields.{put_all}
use Rattle.codec.specs.FieldTests.{Shows}
use Rattle.codec.proofs.Le.{span_pos}
use Rattle.codec.proofs.Fields.{length-put_all, load-put_all-other, shows}
use Rattle.codec.proofs.Level.{level_from-bits_of, bits_of-lt}
use Rattle.vector.specs.Entries.{load_vec}
use Rattle.vector.proofs.Entries.{load-put_vec-other, load_vec-put_vec}
use Rattle.protocol.specs.Record.{Rec, Msg, Update, Heartbeat}
use Rattle.record.specs.RecordBytes.{record_at, message_at, record_fields, put_record, beat, put_message}
use Rattle.record.specs.Fits.{FitsRec, FitsMsg}

-- ---- equal bytes say the same

cond_same {ℓ} : {A : Type ℓ} (b : Bool) {x y : A} (z : A) → (T b → x ≡ y) → cond b x z ≡ cond b y z
cond_same true z e = e tt
cond_same false z e = refl

pub load_vec_ext : (s t : List ℕ) (at : ℕ) → ((i : ℕ) → i < 4 → load 8 s (at + 8 * i) ≡ load 8 t (at + 8 * i)) → load_vec s at ≡ load_vec t at
unfolding load_vec
load_vec_ext s t at e = fun_ext (λ i. cond_same (ltb i 4) 0 (λ b. e i (ltb_yes b)))

-- s and t are the same in the 48 bytes from `at`
abbrev pub Same : List ℕ → List ℕ → ℕ → Type 0
Same s t at = (w j : ℕ) → at ≤ j → j + w ≤ at + 48 → load w s j ≡ load w t j

pub record_ext : (s t : List ℕ) (at : ℕ) → Same s t at → record_at s at ≡ record_at t at
unfolding record_at
record_ext s t at e =
    let carried = load_vec_ext s t (at + 16) (λ k b. e 8 (at + 16 + 8 * k) (omega arith) (omega arith)) in
    λ z.
    record {
      id = record {
        key = e 1 at (omega arith) (omega arith) z;
        source = e 1 (at + 1) (omega arith) (omega arith) z;
        stamp = e 8 (at + 8) (omega arith) (omega arith) z;
      };
      quality = e 1 (at + 2) (omega arith) (omega arith) z;
      level = level_from (e 4 (at + 4) (omega arith) (omega arith) z);
      carried = carried z;
    }

pub message_ext : (s t : List ℕ) (at : ℕ) → Same s t at → message_at s at ≡ message_at t at
unfolding message_at
message_ext s t at e =
    let kind = e 1 (at + 3) (omega arith) (omega arith) in
    let stamp = e 8 (at + 8) (omega arith) (omega arith) in
    let rec = record_ext s t at e in
    λ z. cond (eqb (kind z) 1) (Update (rec z)) (Heartbeat (stamp z))

-- ---- a record that is put, of either kind: its fields and the vector behind

module _ (b : List ℕ) (at kind : ℕ) (r : Rec) where
  pub load-put_record-other : (w j : ℕ) → Apart j w at 48 → load w (put_record b at kind r) j ≡ load w b j
  unfolding put_record
  load-put_record-other w j o =
      load-put_vec-other w (put_all at (record_fields kind r) b) (at + 16) r.carried j (λ k p q c d. o k p q (omega arith) (omega arith))
      ∙ load-put_all-other at 48 (record_fields kind r) b w j tt o

  module _ (fit : at + 48 ≤ length b) (small : FitsRec r) (few : kind < 256) where
    stands : Shows at (put_all at (record_fields kind r) b) (record_fields kind r)
    unfolding span
    stands =
        shows at 48 (record_fields kind r) b fit tt tt
        (small.key, (small.source, (small.quality, (few, (bits_of-lt r.level small.level, (small.stamp, tt))))))

    -- a field outside of the vector's place
    field_put : (w p x : ℕ) → Apart (at + p) w (at + 16) 32 → load w (put_all at (record_fields kind r) b) (at + p) ≡ x → load w (put_record b at kind r) (at + p) ≡ x
    unfolding put_record
    field_put w p x o e = load-put_vec-other w (put_all at (record_fields kind r) b) (at + 16) r.carried (at + p) o ∙ e

    pub kind_put : load 1 (put_record b at kind r) (at + 3) ≡ kind
    kind_put = field_put 1 3 kind (λ k a c d f. omega arith) stands.1.1.1.0

    pub record_put_record : record_at (put_record b at kind r) at ≡ r
    unfolding record_at put_record
    record_put_record =
        let key = ap (load 1 (put_record b at kind r)) (sym (add-zero at)) ∙ field_put 1 0 r.id.key (λ k a c d f. omega arith) stands.0 in
        let source = field_put 1 1 r.id.source (λ k a c d f. omega arith) stands.1.0 in
        let quality = field_put 1 2 r.quality (λ k a c d f. omega arith) stands.1.1.0 in
        let level = ap level_from (field_put 4 4 (bits_of r.level) (λ k a c d f. omega arith) stands.1.1.1.1.0) ∙ level_from-bits_of r.level small.level in
        let stamp = field_put 8 8 r.id.stamp (λ k a c d f. omega arith) stands.1.1.1.1.1.0 in
        let carried = load_vec-put_vec (put_all at (record_fields kind r) b) (at + 16) r.carried (omega (arith, length-put_all at (record_fields kind r) b)) small.carried.below small.carried.beyond in
        λ z.
        record {
          id = record { key = key z; source = source z; stamp = stamp z };
          quality = quality z;
          level = level z;
          carried = carried z;
        }

-- ---- a message that is put

pub beat-fits : (m t : ℕ) → m < 256 → t < span 8 → FitsRec (beat m t)
unfolding FitsLevel
beat-fits m t h g = record {
  key = omega arith;
  source = h;
  stamp = g;
  quality = omega arith;
  level = omega arith;
  carried = record { below = λ i. span_pos 8; beyond = λ i l. refl };
}

pub load-put_message-other : (b : List ℕ) (at m : ℕ) (x : Msg) (w j : ℕ) → Apart j w at 48 → load w (put_message b at m x) j ≡ load w b j
unfolding put_message
load-put_message-other b at m (Update r) = load-put_record-other b at 1 r
load-put_message-other b at m (Heartbeat t) = load-put_record-other b at 2 (beat m t)

pub message_put_message : (b : List ℕ) (at m : ℕ) (x : Msg) → at + 48 ≤ length b → m < 256 → FitsMsg x → message_at (put_message b at m x) at ≡ x
unfolding put_message message_at
message_put_message b at m (Update r) fit h small =
    rw (kind_put b at 1 r fit small (omega arith)) (ap Update (record_put_record b at 1 r fit small (omega arith)))
message_put_message b at m (Heartbeat t) fit h small =
    let small' = beat-fits m t h small in
    let said = record_put_record b at 2 (beat m t) fit small' (omega arith) in
    rw (kind_put b at 2 (beat m t) fit small' (omega arith)) (ap Heartbeat (unfold record_at in ap (λ r. r.id.stamp) said))
