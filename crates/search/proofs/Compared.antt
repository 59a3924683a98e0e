-- One more record beside the best so far, as the code compares them: the record at a place, by its bytes. In order: by any test, by the sources where the
-- stamps are equal, and by the stamps where they differ.
use mathlib.Core.Path.{◌≡◌, sym, ◌∙◌}
use mathlib.Core.Bool.{Bool, ◌||◌}
use mathlib.Core.List.{List}
use Prim.Native.Nat.{ℕ, ◌+◌, ◌*◌, ◌-◌}
use native.Mathlib.Decide.{ℕ_discrete}
use native.Mathlib.Omega.{arith}
use lib.Dec.{ltb, eqb}
use borrow.Author.Tests.{eq-eqb, ne_eqb}
use Rattle.protocol.specs.Record.{Setting, Id, newer}
use Rattle.protocol.proofs.Order.{newer_by_source, newer_by_stamp}
use Rattle.record.specs.RecordBytes.{record_at}
use Rattle.parts.specs.Node.{slot_at}

-- t is what a test says of the record in slot k and the one that stands 56 b from byte 8: where b is a place, that is the record there
pub is_later : (c : Setting) (n : List ℕ) (k b : ℕ) (t : Bool) → t ≡ newer c (record_at n (slot_at k)).id (record_at n (8 + 56 * b)).id
    → (eqb b 0 || t) ≡ (eqb b 0 || newer c (record_at n (slot_at k)).id (record_at n (slot_at (b - 1))).id)
is_later c n k b t e = elim (ℕ_discrete b 0) [
  | yes z ↦ rw (eq-eqb b 0 z)
  | no z ↦ let at : 8 + 56 * b ≡ slot_at (b - 1) = omega arith in rw (ne_eqb b 0 z, e, at)
]

-- x and y are what the code has loaded of the record in slot k, and of the one that stands 56 b from byte 8
module _ (c : Setting) (n : List ℕ) (k b x y : ℕ) where
  abbrev new : Id
  new = (record_at n (slot_at k)).id

  abbrev best : Id
  best = (record_at n (8 + 56 * b)).id

  abbrev Later : Type 0
  Later = (eqb b 0 || ltb y x) ≡ (eqb b 0 || newer c new (record_at n (slot_at (b - 1))).id)

  pub later_by_source : x ≡ new.source → y ≡ best.source → best.stamp ≡ new.stamp → Later
  later_by_source p q same = rw (p, q) (is_later c n k b _ (newer_by_source c new best same))

  pub later_by_stamp : x ≡ new.stamp → y ≡ best.stamp → (y ≡ x → ⊥) → Later
  later_by_stamp p q apart = rw (p, q) (is_later c n k b _ (newer_by_stamp c new best (λ e. apart (q ∙ e ∙ sym p))))
