-- `bench::add_lines`: the answers before an index and those that are left make all of them, so that each has an event.
use Rattle.std.proofs.Common.{◌≡◌, ◌+◌, ◌*◌, length}
use Rattle.bench.proofs.add_lines.Given as goal

abbrev pub invariant-loop-i : goal.invariant-loop-i
invariant-loop-i l =
    (l.i-iterator.iter.size ≡ 16)
    × (16 * l.i-iterator.count + length l.i-iterator.iter.rest.now ≡ length l.answers)
