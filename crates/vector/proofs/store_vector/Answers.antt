-- `vector::store_vector` meets its contract: the first i entries are put.
use mathlib.Core.Path.{◌≡◌, sym, ◌∙◌}
use native.Mathlib.Omega.{arith}
use Rattle.vector.specs.Entries.{entry, put_vec}
use Rattle.vector.proofs.Entries.{put_first_none, put_first-step}
use Rattle.vector.proofs.store_vector.Goals as goal

pub loop-i-init : goal.loop-i-init
loop-i-init c = sym (put_first_none _ _ _)

pub loop-i-preserved : goal.loop-i-preserved
unfolding entry
loop-i-preserved c = c.store.ensures ∙ rw c.loop-i.invariant (sym (put_first-step _ _ _ _))

pub returns : goal.returns
unfolding put_vec
returns c =
    let e : c.loop-i.i ≡ 4 = omega arith in
    rw e at c.loop-i.invariant
