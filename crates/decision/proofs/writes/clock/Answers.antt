-- `decision::writes::clock` meets its contract: its test is that of refusal 19.
use mathlib.Core.Path.{sym, ap, ◌∙◌}
use native.Mathlib.Omega.{arith}
use borrow.Author.Tests.{le-leb, lt-leb}
use Rattle.parts.specs.Node.{clock_in}
use Rattle.table.specs.Parts.{site_of, node_of}
use Rattle.decision.proofs.Times.{clock-answered}
use Rattle.decision.proofs.writes.clock.Goals as goal

pub returns-then-time-clock : goal.returns-then-time-clock
returns-then-time-clock c =
    let a = c.args in
    let e = (c.clock.ensures ∙ ap clock_in c.node.ensures.0) in
    sym (clock-answered a.table.bytes.now a.node.site a.node.partition a.time ∙ rw (lt-leb (clock_in (node_of (site_of a.table.bytes.now a.node.site) a.node.partition)) a.time (omega arith)))

pub returns : goal.returns
returns c =
    let a = c.args in
    let e = (c.clock.ensures ∙ ap clock_in c.node.ensures.0) in
    rw (c.done.ensures.0, c.done.ensures.1, clock-answered a.table.bytes.now a.node.site a.node.partition a.time, le-leb (clock_in (node_of (site_of a.table.bytes.now a.node.site) a.node.partition)) a.time (omega arith))
