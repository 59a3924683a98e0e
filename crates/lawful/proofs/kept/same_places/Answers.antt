-- `lawful::kept::same_places` meets its contract: the first i words are the same.
use mathlib.Core.Path.{◌≡◌, sym, ◌∙◌}
use native.Mathlib.Omega.{arith}
use Rattle.codec.proofs.Below.{all_below_none, all_below-step}
use Rattle.lawful.proofs.Bests.{words_are_bytes}
use Rattle.lawful.proofs.kept.same_places.Goals as goal

pub loop-i-init : goal.loop-i-init
loop-i-init c = sym (all_below_none _)

pub loop-i-preserved : goal.loop-i-preserved
loop-i-preserved c =
    rw (c.load-in-loop-i.ensures, c.load.ensures, c.loop-i.invariant) (sym (all_below-step c.loop-i.i _))

pub returns : goal.returns
returns c =
    let a = c.args in
    let e : c.loop-i.i ≡ 8 = omega arith in
    rw e at c.loop-i.invariant ∙ words_are_bytes a.a.now a.b.now c.type_inv.a c.type_inv.b
