-- `event::flags::used` meets its contract: the table is its rule, tabulated, which antt computes.
use Rattle.codec.specs.Tabulate.{tabulate}
use Rattle.codec.proofs.Tabulate.{tab_at}
use Rattle.event.specs.Fields.{uses}
use Rattle.event.specs.Ranges.{used_by}
use Rattle.event.proofs.flags.used.Goals as goal

pub returns : goal.returns
unfolding uses used_by tabulate
returns c = tab_at 10 (λ row. tabulate 10 (uses row)) _ c.args.row c.requires
