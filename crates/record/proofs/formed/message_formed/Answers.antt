-- `record::formed::message_formed` meets its contract, by the kind that stands there.
use mathlib.Core.Path.{sym, ◌∙◌}
use borrow.Author.Tests.{ne_eqb}
use Rattle.record.specs.RecordBytes.{message_at}
use Rattle.record.specs.Ranges.{message_lawful}
use Rattle.record.specs.RecordFormed.{message_formed}
use Rattle.record.proofs.formed.message_formed.Goals as goal

pub returns-then-kind-eq-UPDATE : goal.returns-then-kind-eq-UPDATE
unfolding message_formed message_at
returns-then-kind-eq-UPDATE c =
    let is_update = sym c.load-kind.ensures ∙ c.if-kind-eq-UPDATE.true in
    rw is_update c.update_formed.ensures

pub returns-then-kind-ne-LAST_KIND : goal.returns-then-kind-ne-LAST_KIND
unfolding message_formed message_at
returns-then-kind-ne-LAST_KIND c =
    let kind = c.load-kind.ensures in
    rw (ne_eqb _ 1 (λ e. c.if-kind-eq-UPDATE.false (kind ∙ e)), ne_eqb _ 2 (λ e. c.if-kind-ne-LAST_KIND.true (kind ∙ e)))

pub returns : goal.returns
unfolding message_formed message_at message_lawful
returns c =
    let is_beat = sym c.load-kind.ensures ∙ c.if-kind-ne-LAST_KIND.false in
    rw (is_beat, c.heartbeat_formed.ensures, c.stamp_lawful.ensures, c.load.ensures)
