-- Tests and choices. In order: what holds of both sides of a choice; how a test is shown to pass; tests joined in another order; the code's test r equals the
-- specified test x, so x is false where the code returns early (`fails`) and true where it goes on (`passes`); choices inside choices; a list of tests. What a
-- passed test says is in mir.Facts.
use Prim.Native.Nat.{ℕ, zero, suc}
use mathlib.Core.Path.{◌≡◌, refl, subst, sym, ap, ◌∙◌}
use mathlib.Core.Bool.{Bool, true, false, cond, not, ◌&&◌, ◌||◌, and_assoc, and_comm}
use mathlib.Core.List.{List, [], ◌∷◌, ◌++◌}
use lib.Dec.{T, eqb, eqb_refl}
use lib.ListN.{get_or}
use mir.Facts.{and_yes, yes_and}
use Rattle.codec.specs.Tests.{every, Hold, Passed, last_of, joined}

pub cond_elim {ℓ κ} : {A : Type ℓ} (P : A → Type κ) (b : Bool) {x y : A} → (T b → P x) → (T (not b) → P y) → P (cond b x y)
cond_elim P true f g = f tt
cond_elim P false f g = g tt

pub yes_or_l : (a b : Bool) → T a → T (a || b)
yes_or_l true b t = tt
yes_or_l false b t = absurd t

pub yes_or_r : (a b : Bool) → T b → T (a || b)
yes_or_r true b t = tt
yes_or_r false b t = t

pub yes_eqb : (m n : ℕ) → m ≡ n → T (eqb m n)
yes_eqb m n e = subst (λ k. T (eqb m k)) e (eqb_refl m)

pub and_swap : (a b c d : Bool) → (a && b && (c && d)) ≡ (a && c && (b && d))
and_swap true true c d = refl
and_swap true false true d = refl
and_swap true false false d = refl
and_swap false b c d = refl

pub same_test : (a b : Bool) → (T a → T b) → (T b → T a) → a ≡ b
same_test true true f g = refl
same_test true false f g = absurd (f tt)
same_test false true f g = absurd (g tt)
same_test false false f g = refl

pub implies : (b x : Bool) → T (not b || x) → T b → T x
implies true x t h = t
implies false x t h = absurd h

pub yes_implies : (b x : Bool) → (T b → T x) → T (not b || x)
yes_implies true x f = f tt
yes_implies false x f = tt

-- what stands behind a test matters only where it passes
pub and_behind : (a b c : Bool) → (T a → b ≡ c) → (a && b) ≡ (a && c)
and_behind true b c h = h tt
and_behind false b c h = refl

-- z must hold unless u, and a if u: one of the two holds
pub either_yes {ℓ} : {R : Type ℓ} (u z a : Bool) → T ((u || z) && (not u || a)) → (T a → R) → (T z → R) → R
either_yes true z a t f g = f t
either_yes {R = R} false false a t f g = elim t [ ]
either_yes false true a t f g = g tt

-- and where u does, a
pub used_yes : (u z a : Bool) → T u → T ((u || z) && (not u || a)) → T a
used_yes true z a h t = t
used_yes false z a h t = elim h [ ]

pub and_turn : (a b c : Bool) → (a && b && c) ≡ (a && c && b)
and_turn a b c = and_assoc a b c ∙ ap (λ (d : Bool). a && d) (and_comm b c) ∙ sym (and_assoc a c b)

-- a test that fails, whatever comes behind it
pub no_and : {a : Bool} (b : Bool) → a ≡ false → false ≡ (a && b)
no_and b e = rw e

pub fails : {r x : Bool} → r ≡ x → r ≡ false → x ≡ false
fails e h = sym e ∙ h

pub passes : {r x : Bool} → r ≡ x → r ≡ true → x ≡ true
passes e h = sym e ∙ h

module _ {ℓ} {A : Type ℓ} where
  pub cond_yes : (b : Bool) (x y : A) → T b → cond b x y ≡ x
  cond_yes true x y t = refl
  cond_yes false x y t = elim t [ ]

  pub cond-not : (b : Bool) (x y : A) → T (not b) → cond b x y ≡ y
  cond-not false x y t = refl
  cond-not true x y t = elim t [ ]

  pub cond_no : (b : Bool) (x y : A) → (T b → ⊥) → y ≡ cond b x y
  cond_no true x y n = absurd (n tt)
  cond_no false x y n = refl

  pub cond_both : (b : Bool) (x : A) → cond b x x ≡ x
  cond_both true x = refl
  cond_both false x = refl

  pub cond-and : (a b : Bool) (x y : A) → cond a (cond b x y) y ≡ cond (a && b) x y
  cond-and true b x y = refl
  cond-and false b x y = refl

  pub cond_and₃ : (a b c : Bool) (x y : A) → cond a (cond (b && c) x y) y ≡ cond (a && b && c) x y
  cond_and₃ true b c x y = refl
  cond_and₃ false b c x y = refl

  -- f done where a and c hold, then where a and b hold
  pub cond_more : (f : A → A) (a b c d : Bool) (x y : A) → y ≡ cond (a && c) (f x) x → d ≡ (b || c) → (T b → c ≡ false) → cond (a && b) (f y) y ≡ cond (a && d) (f x) x
  cond_more f false b c d x y e q n = e
  cond_more f true true c d x y e q n = ap f (e ∙ ap (λ k. cond k (f x) x) (n tt)) ∙ ap (λ k. cond k (f x) x) (sym q)
  cond_more f true false c d x y e q n = e ∙ ap (λ k. cond k (f x) x) (sym q)

-- ---- a list of tests

pub every_yes : (bs : List Bool) → T (every bs) → Hold bs
unfolding every
every_yes [] t = tt
every_yes (b ∷ bs) t = let both = and_yes b (every bs) t in (both.0, every_yes bs both.1)

pub yes_every : (bs : List Bool) → Hold bs → T (every bs)
unfolding every
yes_every [] h = tt
yes_every (b ∷ bs) (f, h) = yes_and b (every bs) f (yes_every bs h)

-- test k fails, so they do not all hold
pub every_fails : (bs : List Bool) (k : ℕ) → get_or bs k true ≡ false → every bs ≡ false
unfolding every
every_fails [] k e = absurd (let t : T false = subst T e tt in t)
every_fails (b ∷ bs) zero e = rw e
every_fails (true ∷ bs) (suc k) e = every_fails bs k e
every_fails (false ∷ bs) (suc k) e = refl

-- all but the last were passed, so the last decides
pub every_last : (bs : List Bool) → Passed bs → every bs ≡ last_of bs
unfolding every
every_last [] h = refl
every_last (true ∷ []) h = refl
every_last (false ∷ []) h = refl
every_last (b ∷ c ∷ bs) (e, h) = rw e (every_last (c ∷ bs) h)

-- two lists of tests as one
pub every_both : (bs cs : List Bool) → (every bs && every cs) ≡ every (bs ++ cs)
unfolding every
every_both [] cs = refl
every_both (true ∷ bs) cs = every_both bs cs
every_both (false ∷ bs) cs = refl

pub every-joined : (bs : List Bool) → every bs ≡ joined bs
unfolding every
every-joined [] = refl
every-joined (true ∷ []) = refl
every-joined (false ∷ []) = refl
every-joined (b ∷ c ∷ bs) = ap (λ d. b && d) (every-joined (c ∷ bs))
