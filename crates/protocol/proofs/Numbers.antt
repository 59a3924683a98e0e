-- Which numbers a step gives, by the numbers of its needs. In order: needs without the numbers of a test; what they show of the answer; and that 10, 23 and 24,
-- which stand around the protocol, are given by no step of it.
use Prim.Native.Nat.{ℕ}
use mathlib.Core.Path.{◌≡◌, refl, subst}
use mathlib.Core.Logic.{◌≢◌}
use mathlib.Core.Bool.{Bool, true, not, ◌&&◌, ◌||◌}
use mathlib.Core.List.{List, [], ◌∷◌}
use lib.Dec.{T, eqb}
use mir.Facts.{T_not, and_yes}
use Rattle.codec.proofs.Tests.{cond_elim}
use Rattle.protocol.specs.Record.{Setting}
use Rattle.protocol.specs.State.{State}
use Rattle.protocol.specs.Event.{Event, OPEN, CLOSE, CLOCK, GET, PUT, BEGIN, READ, END, BEAT, DELIVER, Answer, Done, Stamped, Value, Nothing, Refused, plain, number_of}
use Rattle.protocol.specs.View.{View, view}
use Rattle.protocol.specs.Needs.{Need, ranges, needs}
use Rattle.protocol.specs.Serve.{Outcome, serve}
use Rattle.protocol.specs.Step.{judge, judged, decide, step}
use Rattle.protocol.proofs.Judge.{Met}
use Rattle.protocol.proofs.Influence.{Unserved, serve_is_served}

pub number_plain : (n : ℕ) → number_of (Refused (plain n)) ≡ n
unfolding plain
number_plain n = refl

-- no need is refused with a number of the test
unfoldable pub without : (ℕ → Bool) → List Need → Bool
without f [] = true
without f (n ∷ ns) = not (f n.refusal.number) && without f ns

-- nor is the answer's number one
abbrev pub Free : (ℕ → Bool) → Outcome → Type 0
Free f o = T (not (f (number_of o.says)))

module _ (f : ℕ → Bool) where
  pub judge_free : (ns : List Need) (o : Outcome) → T (without f ns) → Free f o → Free f (judge ns o)
  unfolding judge without
  judge_free [] o t d = d
  judge_free (n ∷ ns) o t d =
      let k = and_yes (not (f n.refusal.number)) (without f ns) t in
      cond_elim (Free f) n.holds (λ b. judge_free ns o k.1 d) (λ b. k.0)

  -- an answer with such a number does not come from these needs: all of them hold
  pub judge_passed : (ns : List Need) (o : Outcome) → T (without f ns) → T (f (number_of (judge ns o).says)) → Met ns × (judge ns o ≡ o)
  unfolding judge without
  judge_passed [] o t = λ h. (tt, refl)
  judge_passed (n ∷ ns) o t =
      let k = and_yes (not (f n.refusal.number)) (without f ns) t in
      cond_elim (λ u. T (f (number_of u.says)) → (T n.holds × Met ns) × (u ≡ o)) n.holds
      (λ b h. let r = judge_passed ns o k.1 h in ((b, r.0), r.1))
      (λ b h. absurd (T_not (f n.refusal.number) h k.0))

  served_free : (a : Answer) → T (not (f 0)) → T (not (f 1)) → T (not (f 2)) → (Unserved a → ⊥) → T (not (f (number_of a)))
  unfolding Unserved
  served_free Done x y z u = x
  served_free (Stamped m t) x y z u = x
  served_free (Value v) x y z u = y
  served_free Nothing x y z u = z
  served_free (Refused w) x y z u = absurd (u tt)

  pub serve_free : (v : View) (e : Event) → T (not (f 0)) → T (not (f 1)) → T (not (f 2)) → Free f (serve v e)
  serve_free v e x y z = served_free (serve v e).says x y z (serve_is_served v e)

  pub step_free : (S : State) (e : Event) → T (not (f 0)) → T (not (f 1)) → T (not (f 2)) → T (without f (ranges (view S e).setting e)) → T (without f (needs (view S e) e)) → Free f (step S e)
  unfolding step decide judged
  step_free S e x y z r n =
      let v = view S e in
      judge_free (ranges v.setting e) (judged v e) r (judge_free (needs v e) (serve v e) n (serve_free v e x y z))

-- ---- the numbers that are refused around the protocol

unfoldable is_around : ℕ → Bool
is_around n = eqb n 10 || eqb n 23 || eqb n 24

needs_own : (c : Setting) (v : View) (e : Event) → T (without is_around (ranges c e)) × T (without is_around (needs v e))
unfolding is_around without ranges needs plain
needs_own c v (OPEN s m) = (tt, tt)
needs_own c v (CLOSE s) = (tt, tt)
needs_own c v (CLOCK m p t) = (tt, tt)
needs_own c v (GET s k) = (tt, tt)
needs_own c v (PUT s k q l) = (tt, tt)
needs_own c v (BEGIN s p ks) = (tt, tt)
needs_own c v (READ s k) = (tt, tt)
needs_own c v (END s) = (tt, tt)
needs_own c v (BEAT m p) = (tt, tt)
needs_own c v (DELIVER i m p) = (tt, tt)

step_own : (S : State) (e : Event) → Free is_around (step S e)
unfolding is_around
step_own S e = let o = needs_own (view S e).setting (view S e) e in step_free is_around S e tt tt tt o.0 o.1

pub no_10 : (S : State) (e : Event) → number_of (step S e).says ≢ 10
unfolding is_around
no_10 S e z = subst (λ n. T (not (is_around n))) z (step_own S e)

pub no_23 : (S : State) (e : Event) → number_of (step S e).says ≢ 23
unfolding is_around
no_23 S e z = subst (λ n. T (not (is_around n))) z (step_own S e)

pub no_24 : (S : State) (e : Event) → number_of (step S e).says ≢ 24
unfolding is_around
no_24 S e z = subst (λ n. T (not (is_around n))) z (step_own S e)
