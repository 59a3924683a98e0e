-- `table::sites::publish` meets its contract, by what its two callees ensure.
use mathlib.Core.Path.{◌∙◌}
use native.Mathlib.Omega.{arith}
use Rattle.record.specs.Meaning.{as_message}
use Rattle.table.specs.Put.{published_on}
use Rattle.table.proofs.Beside.{free_published}
use Rattle.table.proofs.sites.publish.Goals as goal

pub send-requires : goal.send-requires
send-requires c =
    let a = c.args in
    let free = free_published a.m (as_message a.x) a.site.now a.p a.n c.requires.0 (omega arith) (omega arith) c.requires.5 in
    (omega arith, omega arith, omega arith, rw c.publish_node.ensures free)

pub returns : goal.returns
unfolding published_on
returns c =
    c.send.ensures ∙ rw c.publish_node.ensures
