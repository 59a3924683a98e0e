-- `lawful::sessions_formed` meets its contract: the first s sessions passed.
use mathlib.Core.Path.{sym}
use native.Mathlib.Omega.{arith}
use Rattle.codec.proofs.Tests.{fails, passes}
use Rattle.codec.proofs.Below.{all_below_none, all_below_more, all_below_fails}
use Rattle.lawful.proofs.sessions_formed.Goals as goal

pub loop-s-init : goal.loop-s-init
loop-s-init c = all_below_none _

pub returns-then-not-session_formed : goal.returns-then-not-session_formed
returns-then-not-session_formed c =
    let no = fails (rw c.session.ensures.0 at c.session_formed.ensures) c.if-not-session_formed.true in
    sym (all_below_fails 16 _ c.loop-s.s (omega arith) no)

pub loop-s-preserved : goal.loop-s-preserved
loop-s-preserved c =
    all_below_more c.loop-s.s _ c.loop-s.invariant (passes (rw c.session.ensures.0 at c.session_formed.ensures) c.if-not-session_formed.false)
