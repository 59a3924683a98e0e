-- `parts::sessions::store_marks` meets its contract: what is left to do is to put the marks from i on.
use mathlib.Core.Path.{sym, ◌∙◌}
use native.Mathlib.Omega.{arith}
use Rattle.parts.specs.Pages.{mark_of}
use Rattle.parts.proofs.MarkBytes.{marks_none, marks-step}
use Rattle.parts.proofs.sessions.store_marks.Goals as goal

pub loop-i-preserved : goal.loop-i-preserved
loop-i-preserved c =
    let x = c.args.x in
    rw c.store_mark.ensures (marks-step c.loop-i.b c.loop-i.i x.page.count (mark_of x) (omega arith) ∙ c.loop-i.invariant)

pub returns : goal.returns
returns c =
    let x = c.args.x in
    sym (marks_none c.loop-i.b c.loop-i.i x.page.count (mark_of x) (omega arith)) ∙ c.loop-i.invariant
