-- `protocol::limits::partition_of` meets its contract, for each literal; the remainder by none is the number.
use mathlib.Core.Path.{◌≡◌}
use native.Mathlib.Omega.{arith}
use Rattle.std.proofs.Math.Nat.{mod-one, mod-zero}
use Rattle.protocol.proofs.limits.partition_of.Goals as goal

pub returns-then-partitions-eq4 : goal.returns-then-partitions-eq4
returns-then-partitions-eq4 c =
    let e : c.args.partitions ≡ 4 = omega arith in
    rw e

pub returns-then-partitions-ge3 : goal.returns-then-partitions-ge3
returns-then-partitions-ge3 c =
    let e : c.args.partitions ≡ 3 = omega arith in
    rw e

pub returns-then-partitions-ge2 : goal.returns-then-partitions-ge2
returns-then-partitions-ge2 c =
    let e : c.args.partitions ≡ 2 = omega arith in
    rw e

pub returns-then-partitions-eq1 : goal.returns-then-partitions-eq1
returns-then-partitions-eq1 c =
    let e : c.args.partitions ≡ 1 = omega arith in
    rw (e, mod-one c.args.k)

pub returns-else-partitions-eq1 : goal.returns-else-partitions-eq1
returns-else-partitions-eq1 c =
    let e : c.args.partitions ≡ 0 = omega arith in
    rw (e, mod-zero c.args.k)
