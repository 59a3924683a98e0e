-- What a decision gives where a reason turns its event away: at the exit of a `?`, the reason that was met there; of a session that is not open, 12.
use mathlib.Core.Path.{◌≡◌, ap, ◌∙◌}
use mathlib.Core.List.{[]}
use Rattle.std.specs.Result.{IsErrAnd}
use Rattle.std.specs.declared.result.Result.{Result}
use Rattle.std.proofs.lemmas.Result.{err_from_is_err_and}
use Rattle.protocol.specs.declared.Answer.TheVariants.{Refused}
use Rattle.protocol.specs.declared.reasons.Reason.{Reason}
use Rattle.protocol.specs.Reason.{refusal_for}
use Rattle.protocol.specs.Serve.{Outcome, ◌and◌}
use Rattle.outcome.specs.Decided.{decided_of}
use Rattle.outcome.specs.declared.Decided.{Decided}

abbrev pub turned_by : Reason → Outcome
turned_by w = Refused (refusal_for w) and []

module _ (r : Result Decided Reason) (w : Reason) (exit : IsErrAnd r (λ v. v ≡ w)) where
  pub turned : (v : Reason) → w ≡ v → decided_of r ≡ turned_by v
  turned v e = let p = err_from_is_err_and r exit in ap decided_of p.1 ∙ ap turned_by (p.2 ∙ e)
