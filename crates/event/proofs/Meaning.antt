-- The values that the code loads say the event of the bytes, where these are lawful. In order: a field of a lawful event, the event, and what a
-- dispatcher knows that matches on the code. The key rules are `event_is` and `used_in_range_lem`.
use mathlib.Core.Path.{◌≡◌, sym, ap, subst, ◌∙◌}
use mathlib.Core.Bool.{Bool, true, false, ◌&&◌}
use mathlib.Core.List.{List}
use Prim.Native.Nat.{ℕ, ◌+◌, ◌-◌, ◌≤◌, ◌<◌}
use native.Mathlib.Omega.{arith}
use lib.Dec.{T, ltb, leb}
use lib.ListN.{get_or}
use mir.Facts.{and_yes, leb_yes, eqb_yes}
use Rattle.codec.specs.Le.{load}
use Rattle.codec.specs.Below.{all_below}
use Rattle.codec.specs.Tabulate.{tabulate}
use Rattle.codec.proofs.Below.{all_below-at}
use Rattle.codec.proofs.Tests.{either_yes, used_yes}
use Rattle.codec.proofs.Tabulate.{tab_at, tab_ext}
use Rattle.protocol.specs.Record.{Setting}
use Rattle.protocol.specs.Needs.{ranges}
use Rattle.event.specs.declared.Fields.{Fields}
use Rattle.event.specs.Fields.{uses, zero_at, rest_zero, unused_zero}
use Rattle.event.specs.Event.{code_lawful, event_of, met}
use Rattle.event.specs.Meaning.{fields_in, keys_from, event_for, event_from}
use Rattle.event.specs.Ranges.{in_range, used_by, zero_in, field_lawful, fields_lawful}
use Rattle.event.proofs.Ranges.{zero_unused, used_in_range, field_lawful_lem, fields_lawful_lem}

module _ (c : Setting) (e : List ℕ) where
  -- neither 10 nor 11
  abbrev pub Lawful : Type 0
  Lawful = (code_lawful e ≡ true) × ((unused_zero e && met (ranges c (event_of e))) ≡ true)

  -- ---- a field of a lawful event

  each_lawful : Lawful → (f : ℕ) → f < 10 → T (zero_unused e (load 1 e 0 - 1) f && used_in_range c e (load 1 e 0 - 1) f)
  unfolding fields_lawful
  each_lawful l f h =
      let n = load 1 e 0 - 1 in
      let each : ℕ → Bool = field_lawful (used_by n) (zero_in e) (in_range c (fields_in e)) in
      let t : T (fields_lawful c e) = rw (fields_lawful_lem c e l.0, l.1) tt in
      subst T (field_lawful_lem c e n f h) (all_below-at 10 each (and_yes (all_below 10 each) (rest_zero e && zero_at e 28 4) t).0 f h)

  -- the count is at most 8, used or not
  count_low : Lawful → load 1 e 7 ≤ 8
  unfolding in_range fields_in zero_at
  count_low l =
      either_yes (uses (load 1 e 0 - 1) 6) _ _ (each_lawful l 6 (omega arith))
      (λ u. leb_yes (and_yes (ltb 0 (load 1 e 7)) (leb (load 1 e 7) 8) u).1)
      (λ u. let z : load 1 e 7 ≡ 0 = eqb_yes u in omega arith)

-- ---- the event

keys_from-fields_in : (e : List ℕ) → load 1 e 7 ≤ 8 → keys_from (fields_in e) ≡ tabulate (load 1 e 7) (λ i. load 1 e (20 + i))
unfolding keys_from fields_in
keys_from-fields_in e h = tab_ext (load 1 e 7) _ _ (λ i b. tab_at 8 (λ i. load 1 e (20 + i)) 0 i (omega arith))

pub event_from-fields_in : (c : Setting) (e : List ℕ) → Lawful c e → event_from (fields_in e) ≡ event_of e
unfolding event_from event_of fields_in
event_from-fields_in c e l = rw (keys_from-fields_in e (count_low c e l))

-- ---- what a dispatcher knows where the code that it has loaded is n

module _ (c : Setting) (e : List ℕ) (x : Fields) (q : x ≡ fields_in e) (l : Lawful c e) (n : ℕ) (h : x.code ≡ n) where
  -- at a numeral it computes: where n is 1, event_of e ≡ OPEN x.session x.site
  pub event_is : event_of e ≡ event_for x n
  unfolding event_from
  event_is = sym (rw q (event_from-fields_in c e l)) ∙ ap (event_for x) h

  code_is : load 1 e 0 - 1 ≡ n - 1
  unfolding fields_in
  code_is = rw (← h, q)

  -- a used field is in its range; at numerals it computes: where n is 1 and f is `site`, T (ltb x.site c.sites)
  pub used_in_range_lem : (f : ℕ) → f < 10 → T (uses (n - 1) f) → T (get_or (in_range c x) f false)
  used_in_range_lem f b u = rw q (used_yes (uses (n - 1) f) _ _ u (rw code_is at (each_lawful c e l f b)))
