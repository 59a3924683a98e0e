-- `parts::Marks::all_read` meets its contract: `all` says it of the marks from place i on.
use mathlib.Core.Path.{◌≡◌, ap, ◌∙◌}
use mathlib.Core.Bool.{and_comm}
use native.Mathlib.Omega.{arith}
use Rattle.protocol.specs.Needs.{all_read}
use Rattle.parts.proofs.Backward.{from_none, from_back, from_all}
use Rattle.parts.proofs.Marks.all_read.Goals as goal

pub loop-i-init : goal.loop-i-init
unfolding all_read
loop-i-init c = λ keys. rw from_none

pub loop-i-preserved : goal.loop-i-preserved
unfolding all_read
loop-i-preserved c = λ keys. rw (and_comm c.loop-i.all, c.loop-i.invariant keys, from_back _ c.args.self.page.count c.loop-i.i (omega arith) (omega arith))

pub returns : goal.returns
returns c =
    let e : c.loop-i.i ≡ 0 = omega arith in
    λ keys. (rw e at (c.loop-i.invariant keys)) ∙ ap all_read (from_all _ _)
