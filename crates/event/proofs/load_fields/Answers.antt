-- `event::load_fields` meets its contract, by what each load ensures.
use mir.Facts.{to_z-of_z}
use Rattle.event.specs.Meaning.{fields_in}
use Rattle.event.proofs.load_fields.Goals as goal

pub returns : goal.returns
unfolding fields_in
returns c =
    rw
    (to_z-of_z (record { sfits = c.load_level.type_inv }), c.load.ensures, c.load-2.ensures, c.load-3.ensures, c.load-4.ensures, c.load-5.ensures, c.load-6.ensures, c.load-7.ensures, c.load-8.ensures, c.load-9.ensures, c.load_level.ensures, c.load_eight.ensures)
