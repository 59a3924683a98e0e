-- Demand 1 on bytes: a call that refuses or waits leaves every byte of the table as it was.
use Prim.Native.Nat.{ℕ}
use native.Mathlib.Omega.{arith}
use mathlib.Core.Path.{◌≡◌, refl, ap}
use mathlib.Core.List.{List}
use lib.Dec.{eqb}
use lib.ListN.{length}
use Rattle.codec.proofs.Tests.{cond_elim}
use Rattle.protocol.specs.declared.Refusal.{Refusal}
use Rattle.protocol.specs.declared.Answer.TheVariants.{Done, Refused}
use Rattle.protocol.proofs.Influence.{refused_still}
use Rattle.event.specs.Event.{event_of}
use Rattle.table.specs.Parts.{table_length}
use Rattle.table.specs.Decode.{decode}
use Rattle.table.specs.Put.{put_changes}
use Rattle.lawful.specs.LawfulValues.{setting_lawful}
use Rattle.steps.specs.Step.{Called}
use Rattle.archive.specs.Call.{setup_call}
use Rattle.archive.specs.Promises.{UntouchedBytes, UntouchedSetup}
use Rattle.archive.proofs.Calls.{stepped, call_elim}

abbrev Still : List ℕ → Refusal → Called → Type 0
Still t w c = c.answer ≡ Refused w → c.table ≡ t

step_still : (t e : List ℕ) (w : Refusal) → Still t w (stepped t e)
unfolding put_changes
step_still t e w z = ap (λ cs. put_changes cs t) (refused_still (decode t) (event_of e) w z)

pub untouched_bytes : UntouchedBytes
untouched_bytes t e w = call_elim t e (Still t w) (λ z. refl) (λ b z. refl) (λ z. refl) (λ z. refl) (λ i f. step_still t e w)

pub untouched_setup : UntouchedSetup
unfolding setup_call
untouched_setup t sites partitions w =
    cond_elim (Still t w) (eqb (length t) table_length)
    (λ a. cond_elim (Still t w) (setting_lawful (record { sites = sites; partitions = partitions })) (λ b z. absurd (never z)) (λ b z. refl)) (λ a z. refl)
  where
    never : Done ≡ Refused w → ⊥
    never z = let n : ◌≡◌ {A = ℕ} 0 1 = cc in omega arith
