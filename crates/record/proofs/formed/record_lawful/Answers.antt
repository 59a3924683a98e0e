-- `record::formed::record_lawful` meets its contract, by the partition of the key and the test of the fields.
use mathlib.Core.Path.{sym, ◌∙◌}
use borrow.Author.Tests.{eq-eqb, ne_eqb}
use Rattle.record.specs.RecordBytes.{record_at}
use Rattle.record.specs.Ranges.{record_lawful}
use Rattle.record.proofs.formed.record_lawful.Goals as goal

pub returns-then-partition_of-p : goal.returns-then-partition_of-p
unfolding record_lawful record_at
returns-then-partition_of-p c =
    let part = c.partition_of in
    rw (← c.load.ensures, ← part.ensures, ne_eqb part.result c.args.p c.if-partition_of-p.true)

pub returns : goal.returns
unfolding record_lawful record_at
returns c =
    let of-partition = rw c.load.ensures at c.partition_of.ensures in
    rw (eq-eqb _ _ (sym of-partition ∙ c.if-partition_of-p.false)) c.record_in_range.ensures
