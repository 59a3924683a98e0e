-- `record::formed::update_formed` meets its contract, by the source that stands there.
use mathlib.Core.Path.{sym, ◌∙◌}
use borrow.Author.Tests.{eq-eqb, ne_eqb}
use Rattle.record.specs.RecordBytes.{record_at}
use Rattle.record.specs.Ranges.{message_lawful}
use Rattle.record.proofs.formed.update_formed.Goals as goal

pub returns-then-load-i : goal.returns-then-load-i
unfolding message_lawful record_at
returns-then-load-i c = rw (ne_eqb _ c.args.i (λ e. c.if-load-i.true (c.load.ensures ∙ e)))

pub returns : goal.returns
unfolding message_lawful record_at
returns c =
    rw (eq-eqb _ c.args.i (sym c.load.ensures ∙ c.if-load-i.false)) c.record_lawful.ensures
