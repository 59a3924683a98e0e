-- Refusal 11, field by field, is the zero test of what is not used with the protocol's ranges of what is. In order: the two tests of a field, what
-- each code asks of the fields that it uses, and the law.
use mathlib.Core.Path.{◌≡◌, refl, ◌∙◌}
use mathlib.Core.Bool.{Bool, true, false, not, ◌&&◌, ◌||◌, and-true, and_assoc}
use mathlib.Core.List.{List}
use Prim.Native.Nat.{ℕ, ◌-◌, ◌<◌}
use native.Mathlib.Omega.{arith}
use lib.Dec.{ltb}
use lib.ListN.{get_or}
use mir.Facts.{and_yes, ltb_yes}
use Rattle.codec.specs.Le.{load}
use Rattle.codec.specs.Below.{all_below}
use Rattle.codec.proofs.Tabulate.{tab_at}
use Rattle.codec.proofs.Below.{first, none, all_below-and, all_below_ext}
use Rattle.codec.proofs.Tests.{and_turn}
use Rattle.protocol.specs.Record.{Setting}
use Rattle.protocol.specs.Needs.{ranges}
use Rattle.event.specs.Fields.{uses, zero_at, start_of, size_of, rest_zero, unused_zero}
use Rattle.event.specs.Event.{code_lawful, event_of, met}
use Rattle.event.specs.Meaning.{fields_in}
use Rattle.event.specs.Ranges.{in_range, used_by, zero_in, field_lawful, fields_lawful}
use Rattle.event.proofs.Keys.{length_keys, count_keys}

-- the field f of the code n + 1 is zero unless it is used, and in its range if it is
abbrev pub zero_unused : List ℕ → (n f : ℕ) → Bool
zero_unused e n f = uses n f || zero_at e (start_of f) (size_of f)

abbrev pub used_in_range : Setting → List ℕ → (n f : ℕ) → Bool
used_in_range c e n f = not (uses n f) || get_or (in_range c (fields_in e)) f false

-- ---- what each code asks of the fields that it uses, from OPEN to DELIVER

asked_met : (c : Setting) (e : List ℕ) (n : ℕ) → n < 10 → load 1 e 0 - 1 ≡ n → all_below 10 (used_in_range c e n) ≡ met (ranges c (event_of e))
unfolding all_below uses in_range fields_in event_of met ranges
asked_met c e =
    first _ 9 (λ q. simp (q, and-true, and_assoc))
    (first _ 8 (λ q. simp (q, and-true))
    (first _ 7 (λ q. simp (q, and-true, and_assoc))
    (first _ 6 (λ q. simp (q, and-true))
    (first _ 5 (λ q. simp (q, and-true, and_assoc))
    (first _ 4 (λ q. simp (q, and-true, and_assoc, length_keys, count_keys))
    (first _ 3 (λ q. simp (q, and-true))
    (first _ 2 (λ q. simp (q, and-true))
    (first _ 1 (λ q. simp (q, and-true))
    (first _ 0 (λ q. simp (q, and-true, and_assoc)) (none _))))))))))

-- ---- the law

pub code_row : (e : List ℕ) → code_lawful e ≡ true → (0 < load 1 e 0) × (load 1 e 0 - 1 < 10)
unfolding code_lawful
code_row e h =
    let t = and_yes (ltb 0 (load 1 e 0)) (ltb (load 1 e 0) 11) (rw h tt) in
    let low : 0 < load 1 e 0 = ltb_yes t.0 in
    let high : load 1 e 0 < 11 = ltb_yes t.1 in
    (low, omega arith)

module _ (c : Setting) (e : List ℕ) where
  -- the test of a field, by its rules
  pub field_lawful_lem : (n f : ℕ) → f < 10 → field_lawful (used_by n) (zero_in e) (in_range c (fields_in e)) f ≡ (zero_unused e n f && used_in_range c e n f)
  unfolding field_lawful used_by zero_in
  field_lawful_lem n f b = rw (tab_at 10 (uses n) false f b, tab_at 10 (λ f. zero_at e (start_of f) (size_of f)) false f b)

  fields_split : (n : ℕ) → all_below 10 (field_lawful (used_by n) (zero_in e) (in_range c (fields_in e))) ≡ (all_below 10 (zero_unused e n) && all_below 10 (used_in_range c e n))
  fields_split n = all_below_ext 10 _ _ (field_lawful_lem n) ∙ all_below-and 10 (zero_unused e n) (used_in_range c e n)

  pub fields_lawful_lem : code_lawful e ≡ true → fields_lawful c e ≡ (unused_zero e && met (ranges c (event_of e)))
  unfolding fields_lawful unused_zero
  fields_lawful_lem h =
      let n = load 1 e 0 - 1 in
      rw (fields_split n, asked_met c e n (code_row e h).1 refl)
      (and_turn (all_below 10 (zero_unused e n)) (met (ranges c (event_of e))) (rest_zero e && zero_at e 28 4))
