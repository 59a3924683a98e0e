-- `archive::step` meets its contract, test by test.
use mathlib.Core.Path.{sym, ◌∙◌}
use Rattle.archive.proofs.Calls.{step_no_table, step_no_event, step_ill, step_formed}
use borrow.Author.Rules.{rules}
use Rattle.archive.proofs.step.Goals as goal

pub returns-then-table-ne-TABLE : goal.returns-then-table-ne-TABLE
returns-then-table-ne-TABLE c = rw c.from.ensures (sym (step_no_table _ _ c.if-table-ne-TABLE.true))

pub returns-then-event-ne32 : goal.returns-then-event-ne32
returns-then-event-ne32 c = rw c.from-then-event-ne32.ensures (sym (step_no_event _ _ (search rules) c.if-event-ne32.true))

pub returns-then-not-well_formed : goal.returns-then-not-well_formed
returns-then-not-well_formed c =
    rw c.from-then-not-well_formed.ensures (sym (step_ill _ _ (search rules) (search rules) (sym c.well_formed-2.ensures ∙ c.if-not-well_formed.true)))

pub returns : goal.returns
returns c = c.step.ensures ∙ sym (step_formed _ _ (search rules) (search rules) (sym c.well_formed-2.ensures ∙ c.if-not-well_formed.false))
