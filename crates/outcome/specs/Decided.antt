-- A decision as the protocol's outcome: its answer, and the changes of its effect; or the reason that there is none, and nothing changes.
use Rattle.std.specs.Prelude.{List, [], ◌∷◌}
use Rattle.std.specs.declared.result.Result.{Result}
use Rattle.std.specs.declared.result.Result.TheVariants.{Ok, Err}
use Rattle.protocol.specs.Record.{Heartbeat}
use Rattle.protocol.specs.declared.Answer.TheVariants.{Refused}
use Rattle.protocol.specs.Change.{Change, SetSession, SetClock, Publish, Receive}
use Rattle.protocol.specs.Serve.{Outcome, ◌and◌}
use Rattle.protocol.specs.Reason.{refusal_for}
use Rattle.protocol.specs.declared.reasons.Reason.{Reason}
use Rattle.record.specs.Meaning.{as_message}
use Rattle.parts.specs.Meaning.{as_session}
use Rattle.outcome.specs.declared.Effect.{Effect}
use Rattle.outcome.specs.declared.Decided.{Decided}

abbrev pub changes_of : Effect → List Change
changes_of Effect.Nothing = []
changes_of (Effect.Keep s x) = SetSession s.number (as_session x) ∷ []
changes_of (Effect.Clock n t) = SetClock n.site n.partition t ∷ []
changes_of (Effect.Beat n t) = Publish n.site n.partition (Heartbeat t) ∷ []
changes_of (Effect.Put s x n letter) = Publish n.site n.partition (as_message letter) ∷ SetSession s.number (as_session x) ∷ []
changes_of (Effect.Deliver i n letter) = Receive i n.site n.partition (as_message letter) ∷ []

abbrev pub outcome_of : Decided → Outcome
outcome_of d = d.answer and changes_of d.effect

abbrev pub decided_of : Result Decided Reason → Outcome
decided_of (Ok d) = outcome_of d
decided_of (Err w) = Refused (refusal_for w) and []
