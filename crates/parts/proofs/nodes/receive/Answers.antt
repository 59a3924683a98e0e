-- `parts::nodes::receive` meets its contract: the entry becomes the later stamp, and the message is stored.
use Prim.Native.Nat.{◌+◌, ◌*◌}
use mathlib.Core.Path.{◌∙◌}
use native.Mathlib.Omega.{arith}
use Rattle.record.specs.Meaning.{as_message}
use Rattle.parts.specs.Node.{received}
use Rattle.parts.proofs.NodeBytes.{room_before}
use Rattle.parts.proofs.nodes.receive.Goals as goal

pub store-requires-2 : goal.store-requires-2
store-requires-2 c =
    (omega arith, rw c.store.ensures (room_before c.args.n.now 8 (8 + 8 * c.args.i) _ (omega arith) (as_message c.args.x) c.requires.2))

pub returns : goal.returns
unfolding received
returns c =
    c.store-2.ensures ∙ rw (c.store.ensures, c.later.ensures, c.stamp.ensures, c.load-heard.ensures)
