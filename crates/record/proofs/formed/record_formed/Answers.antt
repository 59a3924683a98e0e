-- `record::formed::record_formed` meets its contract, by the kind that stands there.
use mathlib.Core.Path.{sym, ◌∙◌}
use borrow.Author.Tests.{eq-eqb, ne_eqb}
use Rattle.record.specs.RecordFormed.{record_formed}
use Rattle.record.proofs.formed.record_formed.Goals as goal

pub returns-then-load-ne-UPDATE : goal.returns-then-load-ne-UPDATE
unfolding record_formed
returns-then-load-ne-UPDATE c = rw (ne_eqb _ 1 (λ e. c.if-load-ne-UPDATE.true (c.load.ensures ∙ e)))

pub returns : goal.returns
unfolding record_formed
returns c =
    rw (eq-eqb _ 1 (sym c.load.ensures ∙ c.if-load-ne-UPDATE.false)) c.record_lawful.ensures
