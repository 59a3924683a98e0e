-- `search::is_candidate` meets its contract, by the tests in their order.
use mathlib.Core.Path.{sym, ◌∙◌}
use borrow.Author.Tests.{eq-eqb, ne_eqb}
use Rattle.protocol.specs.Record.{of_key, fits_page}
use Rattle.record.specs.RecordBytes.{record_at}
use Rattle.search.proofs.is_candidate.Goals as goal

pub returns-then-load-w : goal.returns-then-load-w
unfolding fits_page of_key record_at
returns-then-load-w c = rw (ne_eqb _ _ (λ e. c.if-load-w.true (c.load.ensures ∙ e)))

pub returns : goal.returns
unfolding fits_page of_key record_at
returns c =
    rw (eq-eqb _ _ (sym c.load.ensures ∙ c.if-load-w.false)) (c.at_most.ensures ∙ rw c.load_vector.ensures)
