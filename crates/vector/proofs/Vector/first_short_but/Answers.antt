-- `vector::Vector::first_short_but` meets its contract: at no site below i is the other short.
use mathlib.Core.Path.{◌≡◌, sym, ◌∙◌}
use native.Mathlib.Omega.{arith}
use Rattle.codec.proofs.Below.{all_below_none, all_below_more, first_not_all, first_not_is}
use Rattle.vector.specs.Vec.{at_most_but, first_short_but}
use Rattle.vector.specs.Entries.{entry}
use Rattle.vector.proofs.Vector.first_short_but.Goals as goal

pub returns-then-at_most_but-clause-named : goal.returns-then-at_most_but-clause-named
unfolding at_most_but first_short_but
returns-then-at_most_but-clause-named c = sym (first_not_all 4 _ (sym c.at_most_but.ensures ∙ c.if-at_most_but.true))

pub loop-i-init : goal.loop-i-init
loop-i-init c = all_below_none _

pub returns-then-not-i-m-clause-named : goal.returns-then-not-i-m-clause-named
unfolding first_short_but entry
returns-then-not-i-m-clause-named c = sym (first_not_is 4 _ c.loop-i.i (omega arith) c.loop-i.invariant (c.if-not-i-m.true))

pub returns-then-not-i-m-clause-known : goal.returns-then-not-i-m-clause-known
unfolding first_short_but entry
returns-then-not-i-m-clause-known c = (
  sym c.at_most_but.ensures ∙ c.if-at_most_but.false,
  sym (first_not_is 4 _ c.loop-i.i (omega arith) c.loop-i.invariant (c.if-not-i-m.true)),
  omega arith,
)

pub loop-i-preserved : goal.loop-i-preserved
unfolding entry
loop-i-preserved c = all_below_more c.loop-i.i _ c.loop-i.invariant (c.if-not-i-m.false)

pub returns-clause-named : goal.returns-clause-named
unfolding first_short_but
returns-clause-named c =
    let e : c.loop-i.i ≡ 4 = omega arith in
    sym (first_not_all 4 _ (rw e at c.loop-i.invariant))

pub returns-clause-known : goal.returns-clause-known
unfolding at_most_but
returns-clause-known c =
    let e : c.loop-i.i ≡ 4 = omega arith in
    rw e at c.loop-i.invariant
