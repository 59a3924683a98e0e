-- `record::bytes::store_fields` meets its contract: seven stores, the last first.
use native.Mathlib.Nat.{add-zero}
use mathlib.Core.Path.{◌∙◌}
use borrow.Author.Rules.{rules}
use mir.ValLaws.{to_z-of_z}
use mir.Syntax.{w32}
use Rattle.record.specs.RecordBytes.{put_record}
use Rattle.record.proofs.bytes.store_fields.Goals as goal

pub returns : goal.returns
unfolding put_record
returns c =
    c.store_vector.ensures
    ∙ rw (add-zero, c.store-5.ensures, c.store_level.ensures, to_z-of_z w32 c.args.r.level (search rules), c.store-4.ensures, c.store-3.ensures, c.store-2.ensures, c.store.ensures)
