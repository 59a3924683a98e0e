-- What may influence a step, on bytes. In order: what a step's changes look at; refusals and the call.
use Prim.Native.Nat.{ℕ, ◌<◌}
use native.Mathlib.Omega.{arith}
use mathlib.Core.Path.{◌≡◌, refl, sym, ap, subst, ◌∙◌}
use mathlib.Core.Bool.{Bool, true, false, ◌&&◌}
use mathlib.Core.List.{List, [], ◌∷◌}
use lib.Dec.{T, eqb}
use lib.ListN.{length}
use mir.Facts.{and_yes, yes_and}
use Rattle.codec.specs.Le.{Bytes}
use Rattle.codec.proofs.Tests.{same_test}
use Rattle.protocol.specs.Record.{Msg}
use Rattle.protocol.specs.Event.{Event}
use Rattle.protocol.specs.View.{Place, of_session, at_site, on_channel, place}
use Rattle.protocol.specs.Change.{Change, SetSession, SetClock, Publish, Receive}
use Rattle.protocol.specs.Step.{step}
use Rattle.protocol.specs.Promises.{Alike}
use Rattle.protocol.proofs.Reach.{SiteOf, Reaches, Quiet, FirstReaches, step_reaches}
use Rattle.protocol.proofs.Influence.{influenced}
use Rattle.protocol.proofs.Influence as Protocol
use Rattle.event.specs.Event.{code_lawful, event_of}
use Rattle.event.specs.Fields.{unused_zero}
use Rattle.table.specs.Parts.{table_length, Whole}
use Rattle.table.specs.Decode.{setting_in, decode}
use Rattle.table.specs.Put.{put_change, put_changes}
use Rattle.table.specs.Fits.{FitsAll}
use Rattle.table.proofs.Parts.{whole_long}
use Rattle.lawful.specs.WellFormed.{well_formed}
use Rattle.lawful.proofs.Facts.{formed}
use Rattle.lawful.proofs.Fits.{step_fits}
use Rattle.steps.specs.Step.{Called, gives, need, step_on}
use Rattle.archive.specs.Call.{step_call}
use Rattle.archive.specs.Story.{is_event}
use Rattle.archive.specs.Influence.{RingsAlike, AgreeOn, SameWrites, SameStep, InfluencedBytes}
use Rattle.archive.proofs.Writes.{writes_none}
use Rattle.archive.proofs.Changes.{Seen, SeenAll, twin_changes}

-- ---- what its changes look at

module _ (t u : List ℕ) (partitions : 0 < (setting_in t).partitions) where
  seen_from : (m p : ℕ) (x : Msg) (w : Place) → AgreeOn t u w → SiteOf (decode t) w m → p < (setting_in t).partitions → Seen (Publish m p x) t u
  unfolding Alike RingsAlike
  seen_from m p x (of_session s) a o g = subst (λ j. Seen (Publish j p x) t u) o.1 (a.0.2 o.0, g, a.1 o.0)
  seen_from m p x (at_site j) a o g = subst (λ k. Seen (Publish k p x) t u) o (a.0, g, a.1)
  seen_from m p x (on_channel i j q) a o g = absurd o

  seen_first : (w : Place) (c : Change) → AgreeOn t u w → Reaches (decode t) w c → Seen c t u
  unfolding Alike RingsAlike decode
  seen_first w (SetSession s x) a r = tt
  seen_first w (SetClock m p c) a r = tt
  seen_first w (Publish m p x) a r = seen_from m p x w a r.0 (r.1 partitions)
  seen_first w (Receive i m p x) a r = let b = subst (AgreeOn t u) r.place a in (b.0.0, r.partition, b.0.1, b.1)

quiet_seen : (cs : List Change) (t u : List ℕ) → Quiet cs → SeenAll cs t u
quiet_seen [] t u q = tt
quiet_seen (SetSession s x ∷ cs) t u q = (tt, quiet_seen cs (put_change (SetSession s x) t) (put_change (SetSession s x) u) q)
quiet_seen (SetClock m p c ∷ cs) t u q = (tt, quiet_seen cs (put_change (SetClock m p c) t) (put_change (SetClock m p c) u) q)
quiet_seen (Publish m p x ∷ cs) t u q = absurd q
quiet_seen (Receive i m p x ∷ cs) t u q = absurd q

agree_seen : (t u : List ℕ) → 0 < (setting_in t).partitions → (e : Event) → AgreeOn t u (place e) → SeenAll (step (decode t) e).changes t u
agree_seen t u partitions e a = go (step (decode t) e).changes (step_reaches (decode t) e)
  where
    go : (cs : List Change) → FirstReaches (decode t) (place e) cs → SeenAll cs t u
    go [] r = tt
    go (c ∷ cs) r = (seen_first t u partitions (place e) c a r.0, quiet_seen cs (put_change c t) (put_change c u) r.1)

-- ---- refusals and the call

abbrev stepped : List ℕ → Event → Called
stepped t e = gives (step (decode t) e).says (put_changes (step (decode t) e).changes t)

same_need : (t u : List ℕ) (b b' : Bool) (n : ℕ) (c d : Called) → b ≡ b' → (T b → SameStep t u c d) → SameStep t u (need b n t c) (need b' n u d)
same_need t u b b' n c d e s = subst (λ k. SameStep t u (need b n t c) (need k n u d)) e (go b s)
  where
    go : (k : Bool) → (T k → SameStep t u c d) → SameStep t u (need k n t c) (need k n u d)
    go true s = s tt
    go false s = record { answer = refl; bytes = writes_none t u }

module _ (t u : List ℕ) (l : length t ≡ table_length) (l' : length u ≡ table_length) (b : Bytes t) (b' : Bytes u) (w : T (well_formed t)) (w' : T (well_formed u)) where
  same_changes : (e : Event) → step (decode t) e ≡ step (decode u) e → SeenAll (step (decode t) e).changes t u → SameStep t u (stepped t e) (stepped u e)
  same_changes e q seen =
      let cs = (step (decode t) e).changes in
      let whole : Whole t = omega arith in
      let whole' : Whole u = omega arith in
      let fit : FitsAll cs u = subst (λ o. FitsAll o.changes u) (sym q) (step_fits u whole' b' w' e) in
      record {
        answer = ap (λ o. o.says) q;
        bytes = subst (λ o. SameWrites t (put_changes cs t) u (put_changes o.changes u)) q (twin_changes cs t u (whole_long t whole) (l' ∙ sym l) (step_fits t whole b w e) fit seen).writes;
      }

  -- the needs before the protocol's are the event's own
  same_call : (e : List ℕ) → (T (is_event e) → SameStep t u (stepped t (event_of e)) (stepped u (event_of e))) → SameStep t u (step_call t e) (step_call u e)
  unfolding step_call step_on is_event
  same_call e f =
      same_need t u (eqb (length t) table_length && eqb (length e) 32) (eqb (length u) table_length && eqb (length e) 32) 23 _ _ (ap (λ k. eqb k table_length && eqb (length e) 32) (l ∙ sym l'))
      (λ x. same_need t u (well_formed t) (well_formed u) 24 _ _ (same_test (well_formed t) (well_formed u) (λ y. w') (λ y. w))
      (λ y. same_need t u (code_lawful e) (code_lawful e) 10 _ _ refl
      (λ c. same_need t u (unused_zero e) (unused_zero e) 11 _ _ refl
      (λ z. f (yes_and (eqb (length e) 32) (code_lawful e && unused_zero e) (and_yes (eqb (length t) table_length) (eqb (length e) 32) x).1 (yes_and (code_lawful e) (unused_zero e) c z))))))

pub influenced_bytes : InfluencedBytes
influenced_bytes t u e l l' b b' w w' q a = same_call t u l l' b b' w w' e (λ i.
    let agree = a i in
    same_changes t u l l' b b' w w' (event_of e) (Protocol.influenced (decode t) (decode u) (event_of e) agree.0) (agree_seen t u (formed t w).partition (event_of e) agree))
