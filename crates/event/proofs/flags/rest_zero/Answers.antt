-- `event::flags::rest_zero` meets its contract: no keys at all, or `all` says it of the first i.
use mathlib.Core.Path.{◌≡◌, sym, ◌∙◌}
use native.Mathlib.Omega.{arith}
use Rattle.codec.proofs.Below.{all_below_none, all_below-step}
use Rattle.event.specs.Fields.{rest_zero}
use Rattle.event.proofs.Keys.{rest_none}
use Rattle.event.proofs.flags.rest_zero.Goals as goal

pub returns-then-load-eq0 : goal.returns-then-load-eq0
returns-then-load-eq0 c = sym (rest_none c.args.e.now (sym c.load.ensures ∙ c.if-load-eq0.true))

pub loop-i-init : goal.loop-i-init
loop-i-init c = sym (all_below_none _)

pub loop-i-preserved : goal.loop-i-preserved
loop-i-preserved c =
    rw (c.loop-i.invariant, c.load-count.ensures, c.load-in-loop-i.ensures) (sym (all_below-step c.loop-i.i _))

pub returns : goal.returns
unfolding rest_zero
returns c =
    let e : c.loop-i.i ≡ 8 = omega arith in
    rw e at c.loop-i.invariant
