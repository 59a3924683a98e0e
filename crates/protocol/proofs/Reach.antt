-- Where a step changes nodes and channels beyond a clock: in its first change alone, which sends from the event's own site or takes what is in front of
-- the event's own channel. The key rule is `step_reaches`.
use Prim.Native.Nat.{ℕ, ◌<◌}
use native.Mathlib.Nat.{mod-lt}
use mathlib.Core.Path.{◌≡◌, refl}
use mathlib.Core.Bool.{not}
use mathlib.Core.List.{List, [], ◌∷◌}
use lib.Dec.{T, ltb, eqb}
use mir.Facts.{and_yes, ltb_yes, eqb_no}
use Rattle.codec.proofs.Tests.{cond_elim}
use Rattle.protocol.specs.Record.{Setting, partition_of, Msg}
use Rattle.protocol.specs.State.{State}
use Rattle.protocol.specs.Event.{Event, OPEN, CLOSE, CLOCK, GET, PUT, BEGIN, READ, END, BEAT, DELIVER}
use Rattle.protocol.specs.View.{Place, of_session, at_site, on_channel, view, place}
use Rattle.protocol.specs.Needs.{ranges, beat_sends, needs}
use Rattle.protocol.specs.Change.{Change, SetSession, SetClock, Publish, Receive}
use Rattle.protocol.specs.Serve.{Outcome, taken, serve}
use Rattle.protocol.specs.Step.{step}
use Rattle.protocol.specs.Promises.{IsPartition}
use Rattle.protocol.proofs.Judge.{Met, step_elim}

-- m is the site of an open session, or the one that is named
abbrev pub SiteOf : State → Place → ℕ → Type 0
SiteOf S (of_session s) m = T (S.session s).is_open × ((S.session s).site ≡ m)
SiteOf S (at_site j) m = j ≡ m
SiteOf S (on_channel i j p) m = ⊥

-- x is in front of the channel that is named
pub record Takes (S : State) (w : Place) (i m p : ℕ) (x : Msg) : Type 0 where
  pub place : w ≡ on_channel i m p
  pub site : m < S.net.setting.sites
  pub partition : p < S.net.setting.partitions
  pub other : i ≡ m → ⊥
  pub rest : List Msg
  pub queue : S.net.chan i m p ≡ x ∷ rest

abbrev pub Reaches : State → Place → Change → Type 0
Reaches S w (SetSession s x) = Unit {0}
Reaches S w (SetClock m p t) = Unit {0}
Reaches S w (Publish m p x) = SiteOf S w m × IsPartition S.net.setting p
Reaches S w (Receive i m p x) = Takes S w i m p x

-- sessions and clocks are set, and nothing else
abbrev pub Quiet : List Change → Type 0
Quiet [] = Unit {0}
Quiet (SetSession s x ∷ cs) = Quiet cs
Quiet (SetClock m p t ∷ cs) = Quiet cs
Quiet (Publish m p x ∷ cs) = ⊥
Quiet (Receive i m p x ∷ cs) = ⊥

abbrev pub FirstReaches : State → Place → List Change → Type 0
FirstReaches S w [] = Unit {0}
FirstReaches S w (c ∷ cs) = Reaches S w c × Quiet cs

pub part_is : (c : Setting) (k : ℕ) → IsPartition c (partition_of c k)
part_is c k h = mod-lt k h

module _ (S : State) where
  taken_reaches : (i m p : ℕ) → m < S.net.setting.sites → p < S.net.setting.partitions → (i ≡ m → ⊥) → (l : List Msg) → S.net.chan i m p ≡ l → FirstReaches S (on_channel i m p) (taken i m p l)
  unfolding taken
  taken_reaches i m p h g d [] e = tt
  taken_reaches i m p h g d (x ∷ l) e = (record { place = refl; site = h; partition = g; other = d; rest = l; queue = e }, tt)

  serve_reaches : (e : Event) → Met (ranges S.net.setting e) → Met (needs (view S e) e) → FirstReaches S (place e) (serve (view S e) e).changes
  unfolding ranges needs serve
  serve_reaches (OPEN s m) r t = (tt, tt)
  serve_reaches (CLOSE s) r t = (tt, tt)
  serve_reaches (CLOCK m p u) r t = (tt, tt)
  serve_reaches (GET s k) r t = (tt, tt)
  serve_reaches (PUT s k q l) r t = (((t.0, refl), part_is S.net.setting k), tt)
  serve_reaches (BEGIN s p ks) r t = (tt, tt)
  serve_reaches (READ s k) r t = (tt, tt)
  serve_reaches (END s) r t = (tt, tt)
  serve_reaches (BEAT m p) r t =
      cond_elim (FirstReaches S (at_site m)) (beat_sends (S.net.heard m p m) (S.net.clock m p)) (λ u. ((refl, λ o. ltb_yes r.1.0), tt)) (λ u. tt)
  serve_reaches (DELIVER i m p) r t =
      let from = and_yes (ltb i S.net.setting.sites) (not (eqb i m)) r.1.1.0 in
      taken_reaches i m p (ltb_yes r.0) (ltb_yes r.1.0) (eqb_no from.1) (S.net.chan i m p) refl

  pub step_reaches : (e : Event) → FirstReaches S (place e) (step S e).changes
  step_reaches e = step_elim S e (λ (o : Outcome). FirstReaches S (place e) o.changes) (λ w. tt) (serve_reaches e)
