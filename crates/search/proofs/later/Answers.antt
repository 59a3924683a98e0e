-- `search::later` meets its contract: where the stamps differ they decide, and elsewhere the sources.
use mathlib.Core.Path.{sym, ◌∙◌}
use native.Mathlib.Omega.{arith}
use borrow.Author.Rules.{rules}
use Rattle.protocol.proofs.Places.{later_yes, later_no}
use Rattle.record.specs.RecordBytes.{record_at}
use Rattle.search.proofs.Compared.{later_by_stamp}
use Rattle.search.proofs.later.Goals as goal

pub by_source-requires : goal.by_source-requires
unfolding record_at
by_source-requires c =
    (search rules, search rules, search rules, sym c.load-than.ensures ∙ c.if-than-stamp.true ∙ c.load-stamp.ensures)

pub returns-then-best-than : goal.returns-then-best-than
unfolding record_at
returns-then-best-than c =
    (λ d. later_yes d _ _ _ (sym (later_by_stamp d _ _ _ _ _ c.load-stamp.ensures c.load-than.ensures c.if-than-stamp.false) ∙ c.if-best-than.true), omega arith)

pub returns-else-best-than : goal.returns-else-best-than
unfolding record_at
returns-else-best-than c =
    (λ d. later_no d _ _ _ (sym (later_by_stamp d _ _ _ _ _ c.load-stamp.ensures c.load-than.ensures c.if-than-stamp.false) ∙ c.if-best-than.false), omega arith)
