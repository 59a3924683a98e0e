-- `decision::lookup::partition` meets its contract: a well-formed table has 1 to 4 partitions.
use native.Mathlib.Nat.{mod-lt}
use native.Mathlib.Omega.{arith}
use mathlib.Core.Path.{refl, ap}
use Rattle.decision.proofs.Formed.{parts_some, parts_at_most}
use Rattle.decision.proofs.lookup.partition.Goals as goal

pub returns : goal.returns
returns c =
    let some = parts_some c.args.table.bytes.now c.args.table.formed in
    let most = parts_at_most c.args.table.bytes.now c.args.table.formed in
    let less = mod-lt c.args.k some in
    rw (c.partition_of.ensures, ap (λ d. d.partitions) c.setting-setting.ensures) (refl, omega arith)
