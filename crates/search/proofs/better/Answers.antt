-- `search::better` meets its contract: a record that does not fit is passed over.
use mathlib.Core.Path.{sym, ◌∙◌}
use Rattle.protocol.proofs.Places.{better_unfit, better_fit}
use Rattle.search.proofs.better.Goals as goal

pub returns-then-not-is_candidate : goal.returns-then-not-is_candidate
returns-then-not-is_candidate c = λ d. better_unfit d _ _ _ _ (sym c.is_candidate.ensures ∙ c.if-not-is_candidate.true)

pub returns : goal.returns
returns c = λ d. c.later.ensures.0 d ∙ better_fit d _ _ _ _ (sym c.is_candidate.ensures ∙ c.if-not-is_candidate.false)
