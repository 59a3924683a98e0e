-- `event::fields_lawful` meets its contract: it tests field by field, which is what the protocol asks.
use Rattle.event.specs.Fields.{zero_at}
use Rattle.event.specs.Meaning.{fields_in}
use Rattle.event.specs.Ranges.{fields_lawful}
use Rattle.event.proofs.Ranges.{code_row, fields_lawful_lem}
use Rattle.event.proofs.fields_lawful.Goals as goal

pub overflow_sub-x : goal.overflow_sub-x
unfolding fields_in
overflow_sub-x c =
    rw c.load_fields-x.ensures (code_row c.args.e.now c.requires).0

pub used-used-requires : goal.used-used-requires
unfolding fields_in
used-used-requires c =
    rw c.load_fields-x.ensures (code_row c.args.e.now c.requires).1

pub returns : goal.returns
unfolding fields_in fields_lawful zero_at
returns c =
    rw
    (c.each_lawful.ensures, c.zero.ensures, c.in_range-within.ensures, c.used-used.ensures, c.load_fields-x.ensures, c.rest_zero.ensures, c.load.ensures)
    (fields_lawful_lem _ c.args.e.now c.requires)
