-- `u32::load` meets its contract: four bytes' number fits 32 bits.
use native.Mathlib.Omega.{arith}
use Rattle.codec.specs.Le.{span}
use Rattle.codec.proofs.Le.{load_lt}
use Rattle.codec.proofs.U32Number.load.Goals as goal

pub overflow_cast-result : goal.overflow_cast-result
unfolding span
overflow_cast-result c =
    let a = c.args in
    omega (arith, load_lt 4 a.t.now a.at c.type_inv.t)

pub returns : goal.returns
unfolding span
returns c =
    let a = c.args in
    omega (arith, load_lt 4 a.t.now a.at c.type_inv.t, c.load_le.ensures)
