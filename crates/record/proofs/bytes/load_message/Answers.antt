-- `record::bytes::load_message` meets its contract, by the kind that stands there.
use mathlib.Core.Path.{sym, ◌∙◌, ap}
use borrow.Author.Tests.{ne_eqb}
use Rattle.protocol.specs.Record.{Update}
use Rattle.record.specs.RecordBytes.{message_at}
use Rattle.record.proofs.bytes.load_message.Goals as goal

pub returns-then-load-eq-UPDATE : goal.returns-then-load-eq-UPDATE
unfolding message_at
returns-then-load-eq-UPDATE c =
    let got = c.load_record-r in
    let is_update = sym c.load.ensures ∙ c.if-load-eq-UPDATE.true in
    rw is_update (ap Update got.ensures)

pub returns-else-load-eq-UPDATE : goal.returns-else-load-eq-UPDATE
unfolding message_at
returns-else-load-eq-UPDATE c =
    let no = ne_eqb _ 1 (λ e. c.if-load-eq-UPDATE.false (c.load.ensures ∙ e)) in
    rw (no, c.load-else-load-eq-UPDATE.ensures)
