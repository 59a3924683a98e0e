-- `record::bytes::load_record` meets its contract: each field is what its load ensures.
use mir.ValLaws.{to_z-of_z}
use mir.Syntax.{w32}
use Rattle.record.specs.RecordBytes.{record_at}
use Rattle.record.proofs.bytes.load_record.Goals as goal

pub returns : goal.returns
unfolding record_at
returns c =
    let got = c.load_level-level in
    rw (to_z-of_z w32 got.result (record { sfits = got.type_inv }), got.ensures, c.load_vector-carried.ensures, c.load-key.ensures, c.load-source.ensures, c.load-quality.ensures, c.load-stamp.ensures)
