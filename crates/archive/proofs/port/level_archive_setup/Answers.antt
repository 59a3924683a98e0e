-- `archive::port::level_archive_setup` meets its contract, by what `setup` ensures.
use mathlib.Core.Path.{ap, ◌∙◌}
use Rattle.protocol.specs.Event.{values_of}
use Rattle.steps.specs.Step.{Called}
use Rattle.archive.proofs.port.level_archive_setup.Goals as goal

pub returns : goal.returns
returns c =
    let s = c.setup in
    (c.from.ensures ∙ ap (λ (k : Called). values_of k.answer) s.ensures, ap (λ (k : Called). k.table) s.ensures)
