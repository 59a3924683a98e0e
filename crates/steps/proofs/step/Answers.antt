-- `steps::step` meets its contract: the array is the event's bytes, which are refused with 10, or else served.
use denote.Bor.{Bor}
use Prim.Native.Nat.{ℕ}
use mathlib.Core.List.{List}
use mathlib.Core.Logic.{◌≢◌}
use mathlib.Core.Path.{◌≡◌, sym, ap, ◌∙◌}
use mathlib.Core.Bool.{false}
use lib.ListN.{length}
use Rattle.std.specs.Array.{IsWholeChunk}
use Rattle.std.specs.Prelude.{Result, Ok, MatchResult}
use Rattle.std.proofs.lemmas.Result.{MatchResult-at_ok}
use Rattle.protocol.specs.declared.reasons.Reason.{Reason}
use Rattle.event.specs.Event.{code_lawful}
use Rattle.event.specs.Meaning.{IsRefusal}
use Rattle.steps.specs.Step.{gives}
use Rattle.steps.proofs.Stepped.{refused_gives}
use Rattle.steps.proofs.step.Goals as goal

-- the array that is read is the event's bytes
array_same : {D : Type 0} {r : Result (Bor (List ℕ)) D} {e : List ℕ} {bytes : Bor (List ℕ)} → r ≡ Ok bytes →
    MatchResult r (λ y. IsWholeChunk e y.now 32) (λ _. length e ≢ 32) → bytes.now ≡ e
array_same known tried = (MatchResult-at_ok (λ y. IsWholeChunk _ y.now 32) _ _ known tried).same

pub returns-then-not-code_lawful : goal.returns-then-not-code_lawful
returns-then-not-code_lawful c =
    let a = c.args in
    let unknown : code_lawful a.e.now ≡ false = rw (array_same c.unwrap-bytes.ensures c.try_from.ensures.1) at (sym c.code_lawful.ensures ∙ c.if-not-code_lawful.true) in
    ap (λ r. gives r a.t.now) c.from.ensures ∙ sym (refused_gives a.t.now a.e.now Reason.UnknownCode (IsRefusal.unknown unknown))
