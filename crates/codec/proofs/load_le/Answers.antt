-- `codec::load_le` meets its contract: r is the number in the n - i bytes from at + i.
use mathlib.Core.Path.{refl, sym, ◌∙◌}
use Prim.Native.Nat.{◌+◌, ◌-◌, ◌<◌}
use native.Mathlib.Omega.{arith}
use Rattle.codec.specs.Le.{span}
use Rattle.codec.proofs.Le.{load_bound, load_at, load_step, load_none}
use Rattle.codec.proofs.load_le.Goals as goal

pub loop-i-init : goal.loop-i-init
loop-i-init c = sym (load_at _ (omega arith) refl ∙ load_none _ _)

-- what is read so far leaves room for one byte more
room : (c : goal.After-from) → c.loop-i.r < span 7
room c =
    let a = c.args in
    rw c.loop-i.invariant (load_bound 7 (a.n - c.loop-i.i) a.t.now (a.at + c.loop-i.i) c.type_inv.t (omega arith))

pub overflow_mul-r : goal.overflow_mul-r
unfolding span
overflow_mul-r c = omega (arith, room c)

pub overflow_add-r : goal.overflow_add-r
unfolding span
overflow_add-r c = omega (arith, room c)

pub loop-i-preserved : goal.loop-i-preserved
loop-i-preserved c =
    let a = c.args in
    let done = a.n - c.loop-i.i in
    let from = a.at + (c.loop-i.i - 1) in
    omega (arith, load_at a.t.now {n = a.n - (c.loop-i.i - 1)} {m = done + 1} {i = from} (omega arith) refl, load_step done a.t.now from, load_at a.t.now {n = done} {i = from + 1} {j = a.at + c.loop-i.i} refl (omega arith))
