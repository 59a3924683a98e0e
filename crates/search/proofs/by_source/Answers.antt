-- `search::by_source` meets its contract: where the stamps are equal the sources decide.
use mathlib.Core.Path.{sym, ◌∙◌}
use native.Mathlib.Omega.{arith}
use Rattle.protocol.proofs.Places.{later_yes, later_no}
use Rattle.record.specs.RecordBytes.{record_at}
use Rattle.search.proofs.Compared.{later_by_source}
use Rattle.search.proofs.by_source.Goals as goal

pub returns-then-best-than : goal.returns-then-best-than
unfolding record_at
returns-then-best-than c =
    (λ d. later_yes d _ _ _ (sym (later_by_source d _ _ _ _ _ c.load-source.ensures c.load-than.ensures c.requires.3) ∙ c.if-best-than.true), omega arith)

pub returns-else-best-than : goal.returns-else-best-than
unfolding record_at
returns-else-best-than c =
    (λ d. later_no d _ _ _ (sym (later_by_source d _ _ _ _ _ c.load-source.ensures c.load-than.ensures c.requires.3) ∙ c.if-best-than.false), omega arith)
