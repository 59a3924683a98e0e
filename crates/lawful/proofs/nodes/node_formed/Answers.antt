-- `lawful::nodes::node_formed` meets its contract, whichever test fails first.
use mathlib.Core.Path.{sym, ap}
use mathlib.Core.Bool.{◌&&◌}
use borrow.Author.Tests.{lt-leb, le-leb}
use Rattle.codec.proofs.Tests.{no_and, fails, passes, every_fails, every_last}
use Rattle.protocol.specs.Meaning.{setting_of}
use Rattle.parts.specs.Node.{heard_in}
use Rattle.lawful.specs.WellFormed.{node_formed, kept_formed}
use Rattle.lawful.proofs.nodes.node_formed.Goals as goal

pub returns-then-most-held : goal.returns-then-most-held
unfolding node_formed
returns-then-most-held c =
    let many = rw (c.most.ensures.0, c.held-held.ensures) at c.if-most-held.true in
    no_and _ (every_fails _ 2 (lt-leb _ _ many))

pub returns-then-not-time_lawful : goal.returns-then-not-time_lawful
unfolding node_formed
returns-then-not-time_lawful c =
    let no = rw c.clock.ensures at (fails c.time_lawful.ensures c.if-not-time_lawful.true) in
    no_and _ (every_fails _ 0 no)

pub returns-then-not-vector_formed : goal.returns-then-not-vector_formed
unfolding node_formed heard_in
returns-then-not-vector_formed c =
    let no = fails c.vector_formed.ensures c.if-not-vector_formed.true in
    no_and _ (every_fails _ 1 no)

pub returns : goal.returns
unfolding node_formed heard_in
returns c =
    let held = c.held-held.ensures in
    let few = rw (c.most.ensures.0, held) at c.if-most-held.false in
    let yes_vec = passes c.vector_formed.ensures c.if-not-vector_formed.false in
    let yes_time = rw c.clock.ensures at (passes c.time_lawful.ensures c.if-not-time_lawful.false) in
    let a = c.args in
    rw (c.records_formed.ensures, held) (ap (λ b. b && kept_formed (setting_of a.setting) a.n.now a.s.now) (sym (every_last _ (yes_time, (yes_vec, (le-leb _ _ few, tt))))))
