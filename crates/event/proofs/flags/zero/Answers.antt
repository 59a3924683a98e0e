-- `event::flags::zero` meets its contract: a test for each field, in the order of the fields.
use Rattle.codec.specs.Tabulate.{tabulate}
use Rattle.event.specs.Fields.{zero_at}
use Rattle.event.specs.Ranges.{zero_in}
use Rattle.event.proofs.flags.zero.Goals as goal

pub returns : goal.returns
unfolding zero_in zero_at tabulate
returns c =
    rw
    (c.load.ensures, c.load-2.ensures, c.load-3.ensures)
    (rw
    (c.load-4.ensures, c.load-5.ensures, c.load-6.ensures, c.load-7.ensures)
    (rw (c.load-8.ensures, c.load-9.ensures, c.load-10.ensures)))
