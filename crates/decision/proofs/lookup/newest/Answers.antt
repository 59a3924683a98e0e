-- `decision::lookup::newest` meets its contract, by what the lent node says.
use Prim.Native.Nat.{ℕ, ◌≤◌, ◌<◌}
use mathlib.Core.Path.{sym, subst}
use Rattle.protocol.proofs.Shelf.{found-newest}
use Rattle.record.specs.RecordBytes.{record_at}
use Rattle.parts.specs.Node.{slot_at, held_in}
use Rattle.table.specs.Decode.{setting_in}
use Rattle.decision.proofs.Formed.{node_held, node_source}
use borrow.Author.Rules.{rules}
use Rattle.decision.proofs.lookup.newest.Goals as goal

pub newest-requires : goal.newest-requires
newest-requires c =
    let a = c.args in
    let t = a.table.bytes.now in
    let here = sym c.node.ensures.0 in (
      search rules,
      subst (λ n. held_in n ≤ 32) here (node_held t c.args.table.formed a.node.site a.node.partition c.args.node.four_sites c.args.node.four_partitions),
      subst (λ n. (k : ℕ) → k < held_in n → (record_at n (slot_at k)).id.source < 4) here (node_source t c.args.table.formed a.node.site a.node.partition c.args.node.four_sites c.args.node.four_partitions),
    )

pub returns : goal.returns
returns c =
    let t = c.args.table.bytes.now in
    (rw (found-newest, sym c.node.ensures.0) (c.newest.ensures.0 (setting_in t)), c.newest.ensures.1)
