-- The search from the front, as a loop goes: one more record behind the others either is the newest or leaves what was found. Over any test of
-- fitness.
use mathlib.Core.Path.{◌≡◌, refl, ap}
use mathlib.Core.Bool.{Bool, true, false, cond, not}
use mathlib.Core.List.{List, [], ◌∷◌, ◌++◌}
use mathlib.Core.Option.{Option, some, none}
use lib.Dec.{T}
use Rattle.protocol.specs.Record.{Setting, Rec, newer, newer_of, newest}
use Rattle.protocol.specs.Causal.{NoOlder}
use Rattle.protocol.proofs.Order.{no_older_trans, newer_trans}

-- r comes behind: it is taken only if it is newer
unfoldable pub later_of : Setting → Rec → Option Rec → Rec
later_of c r none = r
later_of c r (some q) = cond (newer c r.id q.id) r q

module _ (c : Setting) where
  -- x stands before what q is the newest of, and r behind
  swap : (x q r : Rec) → newer_of c x (some (later_of c r (some q))) ≡ later_of c r (some (newer_of c x (some q)))
  unfolding newer_of later_of
  swap x q r = go (newer c r.id q.id) (newer c q.id x.id) (newer c r.id x.id) (newer_trans c r.id q.id x.id) (λ s t. unfold NoOlder in no_older_trans c x.id q.id r.id t s) refl refl refl
    where
      go : (a b d : Bool) → (T (newer c r.id q.id) → T (newer c q.id x.id) → T (newer c r.id x.id)) →
          (T (not (newer c r.id q.id)) → T (not (newer c q.id x.id)) → T (not (newer c r.id x.id))) →
          newer c r.id q.id ≡ a → newer c q.id x.id ≡ b → newer c r.id x.id ≡ d →
          cond (newer c (cond (newer c r.id q.id) r q).id x.id) (cond (newer c r.id q.id) r q) x ≡ cond (newer c r.id (cond (newer c q.id x.id) q x).id) r (cond (newer c q.id x.id) q x)
      go true true true f g i j k = rw (i, j, k, i)
      go true true false f g i j k = absurd (rw k at (f (rw i tt) (rw j tt)))
      go true false d f g i j k = rw (i, j)
      go false true d f g i j k = rw (i, j, i)
      go false false true f g i j k = absurd (rw k at (g (rw i tt) (rw j tt)))
      go false false false f g i j k = rw (i, j, k)

  module _ (fit : Rec → Bool) where
    pub newest_snoc : (l : List Rec) (r : Rec) → newest c fit (l ++ (r ∷ [])) ≡ cond (fit r) (some (later_of c r (newest c fit l))) (newest c fit l)
    unfolding newest
    newest_snoc [] r = unfold newer_of later_of in refl
    newest_snoc (x ∷ l) r = rw (newest_snoc l r) (go (fit x) (fit r) (newest c fit l))
      where
        go : (a b : Bool) (o : Option Rec) → cond a (some (newer_of c x (cond b (some (later_of c r o)) o))) (cond b (some (later_of c r o)) o) ≡
            cond b (some (later_of c r (cond a (some (newer_of c x o)) o))) (cond a (some (newer_of c x o)) o)
        go true true none = unfold newer_of later_of in refl
        go true true (some q) = ap some (swap x q r)
        go true false o = refl
        go false true o = refl
        go false false o = refl
