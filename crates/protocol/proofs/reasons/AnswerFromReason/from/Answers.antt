-- `protocol::reasons` makes an answer of a reason: what is no wait has zeros after its number.
use mathlib.Core.Path.{◌≡◌, refl, ap}
use Prim.Native.Nat.{ℕ}
use Rattle.protocol.specs.Event.{Refused, plain}
use Rattle.protocol.specs.Reason.{number_for, refusal_for}
use Rattle.protocol.specs.declared.reasons.Reason.{Reason}
use Rattle.protocol.proofs.reasons.AnswerFromReason.from.Goals as goal

no_wait : (w : Reason) → ((m t : ℕ) → w ≡ Reason.Wait m t → ⊥) → plain (number_for w) ≡ refusal_for w
no_wait (Reason.Wait m t) other = absurd (other m t refl)
no_wait _ other = refl

pub returns-in_default : goal.returns-in_default
unfolding plain
returns-in_default c = rw c.number-number.ensures (ap Refused (no_wait c.args.w c.in_default.not-Wait))
