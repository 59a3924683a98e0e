-- What a wait says, carried to the bytes: only an event on a well-formed table waits, and there the protocol's promises hold.
use Prim.Native.Nat.{ℕ, ◌≤◌, ◌<◌}
use native.Mathlib.Omega.{arith}
use mathlib.Core.Path.{◌≡◌, refl, sym, ap, subst, ◌∙◌}
use mathlib.Core.Logic.{◌≢◌, ◌⊎◌}
use mathlib.Core.List.{List}
use lib.Dec.{T}
use lib.ListN.{length}
use Rattle.protocol.specs.declared.Answer.{Answer}
use Rattle.protocol.specs.Event.{values_of, number_of}
use Rattle.protocol.specs.Step.{step}
use Rattle.protocol.specs.Waits.{heard_at, clock_at, WaitsFor}
use Rattle.protocol.proofs.Numbers.{number_plain}
use Rattle.protocol.proofs.Waits.{names_what_is_short, named_exists, reads_go_on, puts_go_on}
use Rattle.event.specs.Event.{event_of}
use Rattle.table.specs.Parts.{table_length}
use Rattle.table.specs.Decode.{setting_in, decode}
use Rattle.lawful.specs.WellFormed.{well_formed}
use Rattle.lawful.proofs.Facts.{formed, says_lawful}
use Rattle.steps.specs.Step.{Called, refused}
use Rattle.archive.specs.Call.{step_call}
use Rattle.archive.specs.Story.{is_event}
use Rattle.archive.specs.Promises.{WaitsBytes, ReadsGoOnBytes, PutsGoOnBytes}
use Rattle.archive.proofs.Calls.{call_elim}
use Rattle.archive.proofs.Story.{call_event}

module _ (t e : List ℕ) where
  record Judged (c : Called) : Type 0 where
    event : T (is_event e)
    formed : T (well_formed t)
    says : c.answer ≡ (step (decode t) (event_of e)).says

  -- a call that waits was judged by the protocol
  judged : number_of (step_call t e).answer ≡ 3 → Judged (step_call t e)
  judged = call_elim t e P (other 23 (omega arith)) (λ w. other 24 (omega arith)) (other 10 (omega arith)) (other 11 (omega arith)) (λ i w z. record { event = i; formed = w; says = refl })
    where
      P : Called → Type 0
      P c = number_of c.answer ≡ 3 → Judged c

      other : (n : ℕ) → n ≢ 3 → P (refused n t)
      other n d z = absurd (d (sym (number_plain n) ∙ z))

pub waits-bytes : WaitsBytes
unfolding decode
waits-bytes t e bytes z =
    let J = judged t e z in
    let L = says_lawful t (formed t J.formed) bytes in
    let z' = ap number_of (sym J.says) ∙ z in
    subst (λ (a : Answer). ((values_of a).source < (setting_in t).sites) × WaitsFor (decode t) (event_of e) (values_of a).source (values_of a).stamp) (sym J.says)
    (named_exists (decode t) (setting_in t).sites (λ s h o. let x = L.session s h in record { site = x.here o; vec = x.vec.beyond; page = x.page.vec.beyond }) (event_of e) z', names_what_is_short (decode t) (event_of e) z')

-- the answers of two calls with the same event are the protocol's
both : (t u e : List ℕ) (P : (a b : Answer) → Type 0) → length u ≡ table_length → T (well_formed u) → number_of (step_call t e).answer ≡ 3 →
    P (step (decode t) (event_of e)).says (step (decode u) (event_of e)).says → P (step_call t e).answer (step_call u e).answer
both t u e P size w z h =
    let J = judged t e z in
    subst (λ a. P a (step_call u e).answer) (sym J.says) (subst (P (step (decode t) (event_of e)).says) (sym (ap (λ c. c.answer) (call_event u e size w J.event))) h)

pub reads_go_on_bytes : ReadsGoOnBytes
reads_go_on_bytes t u e size w s k q L z =
    both t u e (λ a b. number_of a ≡ 3 → heard_at (decode u) s k (values_of a).source < (values_of a).stamp → number_of b ≡ 3) size w z (reads_go_on (decode t) (decode u) s k (event_of e) q L) z

pub puts_go_on_bytes : PutsGoOnBytes
puts_go_on_bytes t u e size w s k q l d L z =
    both t u e GoesOn size w z (subst (λ v. GoesOn (step (decode t) v).says (step (decode u) v).says) (sym d) (puts_go_on (decode t) (decode u) s k q l L)) z
  where
    GoesOn : (a b : Answer) → Type 0
    GoesOn a b = number_of a ≡ 3 → heard_at (decode t) s k (values_of a).source ≤ heard_at (decode u) s k (values_of a).source → clock_at (decode u) s k ≤ (values_of a).stamp →
        (number_of b ≡ 3) ⊎ ((number_of b ≡ 21) ⊎ (number_of b ≡ 22))
