-- `codec::store_le` meets its contract: what is left to do is to put y in the n - i bytes from at + i.
use mathlib.Core.Path.{refl, sym, ◌∙◌}
use Prim.Native.Nat.{◌+◌, ◌-◌}
use native.Mathlib.Omega.{arith}
use Rattle.codec.proofs.Le.{put-at, put_step, put_none}
use Rattle.codec.proofs.store_le.Goals as goal

pub loop-i-preserved : goal.loop-i-preserved
loop-i-preserved c =
    let a = c.args in
    let step = put_step (a.n - (c.loop-i.i + 1)) c.loop-i.t (a.at + c.loop-i.i) c.loop-i.y in
    put-at _ refl (omega arith) refl ∙ sym step ∙ put-at _ (omega arith) refl refl ∙ c.loop-i.invariant

pub returns : goal.returns
returns c = sym (put_none _ _ _) ∙ put-at _ (omega arith) refl refl ∙ c.loop-i.invariant
