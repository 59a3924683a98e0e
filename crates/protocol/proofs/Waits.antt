-- What a wait names is short, and while it stays short the event goes on waiting. A wait comes from an event's last need alone, so all others hold.
-- In order: that last need; the lowest site that is short; each event by its last need; what is named, and that it exists; while it stays short.
use Prim.Native.Nat.{ℕ, ◌≤◌, ◌<◌, max}
use native.Mathlib.Decide.{dec_lt}
use native.Mathlib.Omega.{arith}
use mathlib.Core.Path.{◌≡◌, refl, sym, ap, subst, ◌∙◌}
use mathlib.Core.Logic.{◌≢◌, ◌⊎◌, inl, inr}
use mathlib.Core.Bool.{Bool, true, false, not}
use mathlib.Core.List.{List, [], ◌∷◌}
use lib.Dec.{T, leb, ltb, eqb}
use lib.IntN.{ℤ}
use mir.Facts.{T_not, not_T, or_yes, or_no, ltb_yes, ltb_no, leb_yes, leb_no, eqb_yes, eqb_no}
use Rattle.codec.proofs.Tests.{cond_elim, yes_eqb}
use Rattle.vector.specs.Vec.{Vec, width, at_most, at_most_but, first_short, first_short_but, largest}
use Rattle.vector.proofs.Vec.{LeV, at_most_le, at_most_but_le, first_short_lem, first_short_but_lem}
use Rattle.protocol.specs.Record.{partition_of}
use Rattle.protocol.specs.State.{Session, State}
use Rattle.protocol.specs.Event.{Event, OPEN, CLOSE, CLOCK, GET, PUT, BEGIN, READ, END, BEAT, DELIVER, Refused, plain, wait_for, number_of, values_of}
use Rattle.protocol.specs.View.{view}
use Rattle.protocol.specs.Needs.{Need, ◌or_else◌, ◌else◌, level_lawful, get_ready, to_pass, put_ready, read_ready, store_room, send_room, awaited, ranges, needs}
use Rattle.protocol.specs.Serve.{Outcome, ◌and◌, serve}
use Rattle.protocol.specs.Step.{judge, judged, decide, step}
use Rattle.protocol.specs.Waits.{heard_at, clock_at, ShortOf, WaitsFor, Waits, SameSession, ReadsGoOn, PutsGoOn}
use Rattle.protocol.proofs.Judge.{Met, judge-met}
use Rattle.protocol.proofs.Numbers.{without, Free, judge_passed, serve_free, step_free}

-- ---- the last need

abbrev is_wait : ℕ → Bool
is_wait n = eqb n 3

-- an outcome by the needs rs, then ns, then the last one
abbrev by_last : (rs ns : List Need) → Need → Outcome → Outcome
by_last rs ns w o = judge rs (judge ns (judge (w ∷ []) o))

record LastFails (rs ns : List Need) (w : Need) (o : Outcome) : Type 0 where
  fields : Met rs
  before : Met ns
  fails : T (not w.holds)
  gives : by_last rs ns w o ≡ (Refused w.refusal and [])

last_fails : (rs ns : List Need) (w : Need) (o : Outcome) → T (without is_wait rs) → T (without is_wait ns) → Free is_wait o → number_of (by_last rs ns w o).says ≡ 3 → LastFails rs ns w o
unfolding judge
last_fails rs ns w o r n free e =
    let a = judge_passed is_wait rs (judge ns (judge (w ∷ []) o)) r (yes_eqb _ 3 e) in
    let b = judge_passed is_wait ns (judge (w ∷ []) o) n (yes_eqb _ 3 (ap (λ u. number_of u.says) (sym a.1) ∙ e)) in
    let g = a.1 ∙ b.1 in
    go w.holds refl a.0 b.0 g (ap (λ u. number_of u.says) (sym g) ∙ e)
  where
    go : (h : Bool) → w.holds ≡ h → Met rs → Met ns → by_last rs ns w o ≡ judge (w ∷ []) o → number_of (judge (w ∷ []) o).says ≡ 3 → LastFails rs ns w o
    go true q a b g z = absurd (T_not (is_wait (number_of o.says)) (yes_eqb _ 3 (rw q at z)) free)
    go false q a b g z = record { fields = a; before = b; fails = rw q tt; gives = g ∙ rw q }

still_fails : (rs ns : List Need) (w : Need) (o : Outcome) → Met rs → Met ns → T (not w.holds) → by_last rs ns w o ≡ (Refused w.refusal and [])
unfolding judge
still_fails rs ns w o r n f =
    judge-met rs (judge ns (judge (w ∷ []) o)) r ∙ judge-met ns (judge (w ∷ []) o) n
    ∙ cond_elim (λ u. u ≡ (Refused w.refusal and [])) w.holds (λ t. absurd (T_not w.holds t f)) (λ t. refl)

-- ---- the lowest site that is short

short_but : (m : ℕ) (v w : Vec) → T (not (at_most_but m v w)) → ShortOf v w (λ j. j ≢ m) (first_short_but m v w) (v (first_short_but m v w))
short_but m v w t =
    let i = first_short_but m v w in
    let k = first_short_but_lem m v w t in
    let n = or_no (eqb i m) (leb (v i) (w i)) k.fails in
    record {
      site = k.below;
      waited = eqb_no n.0;
      stamp = refl;
      short = leb_no n.1;
      lowest = λ j l d. go j d (or_yes (eqb j m) (leb (v j) (w j)) (k.lowest j l));
    }
  where
    go : (j : ℕ) → j ≢ m → T (eqb j m) ⊎ T (leb (v j) (w j)) → v j ≤ w j
    go j d (inl e) = absurd (d (eqb_yes e))
    go j d (inr l) = leb_yes l

short_any : (v w : Vec) → T (not (at_most v w)) → ShortOf v w (λ j. Unit {0}) (first_short v w) (v (first_short v w))
short_any v w t =
    let k = first_short_lem v w t in
    record { site = k.below; waited = tt; stamp = refl; short = leb_no k.fails; lowest = λ j l d. leb_yes (k.lowest j l) }

-- a node that is short at a site waited for is not ready
not_ready_but : (m : ℕ) (v w : Vec) (i : ℕ) → i < width → i ≢ m → w i < v i → T (not (at_most_but m v w))
not_ready_but m v w i b d l = not_T (at_most_but m v w) (λ t. go (at_most_but_le m v w t i b))
  where
    go : (i ≡ m) ⊎ (v i ≤ w i) → ⊥
    go (inl e) = d e
    go (inr h) = omega arith

not_ready : (v w : Vec) (i : ℕ) → i < width → w i < v i → T (not (at_most v w))
unfolding LeV
not_ready v w i b l = not_T (at_most v w) (λ t. let h = at_most_le v w t i b in omega arith)

-- ---- what each event waits for, in a state S

module _ (S : State) (s k : ℕ) where
  abbrev x : Session
  x = S.session s

  abbrev get_ranges : List Need
  get_ranges = ltb s 16 else 11 ∷ ltb k 64 else 11 ∷ []

  abbrev get_needs : List Need
  get_needs = x.is_open else 12 ∷ not x.page.is_open else 14 ∷ []

  abbrev get_waits : Need
  get_waits = let i = first_short_but x.site x.vec (heard_at S s k) in get_ready x.site (heard_at S s k) x.vec or_else wait_for i (x.vec i)

  get_by_last : step S (GET s k) ≡ by_last get_ranges get_needs get_waits (serve (view S (GET s k)) (GET s k))
  unfolding step decide judged judge ranges needs
  get_by_last = refl

  get_fails : number_of (step S (GET s k)).says ≡ 3 → LastFails get_ranges get_needs get_waits (serve (view S (GET s k)) (GET s k))
  unfolding without plain
  get_fails e = last_fails get_ranges get_needs get_waits _ tt tt (serve_free is_wait (view S (GET s k)) (GET s k) tt tt tt) (ap (λ o. number_of o.says) (sym get_by_last) ∙ e)

  abbrev read_needs : List Need
  read_needs = x.is_open else 12 ∷ x.page.is_open else 15 ∷ awaited k x.page.marks else 16 ∷ []

  abbrev read_waits : Need
  read_waits = let i = first_short x.page.vec (heard_at S s k) in read_ready (heard_at S s k) x.page.vec or_else wait_for i (x.page.vec i)

  read_by_last : step S (READ s k) ≡ by_last get_ranges read_needs read_waits (serve (view S (READ s k)) (READ s k))
  unfolding step decide judged judge ranges needs
  read_by_last = refl

  read_fails : number_of (step S (READ s k)).says ≡ 3 → LastFails get_ranges read_needs read_waits (serve (view S (READ s k)) (READ s k))
  unfolding without plain
  read_fails e = last_fails get_ranges read_needs read_waits _ tt tt (serve_free is_wait (view S (READ s k)) (READ s k) tt tt tt) (ap (λ o. number_of o.says) (sym read_by_last) ∙ e)

  module _ (q : ℕ) (l : ℤ) where
    abbrev put_ranges : List Need
    put_ranges = ltb s 16 else 11 ∷ ltb k 64 else 11 ∷ ltb q 3 else 11 ∷ level_lawful l else 11 ∷ []

    -- there is room: 22 and 21
    abbrev slot : Bool
    slot = store_room (S.net.store x.site (partition_of S.net.setting k))

    abbrev room : Bool
    room = send_room (view S (PUT s k q l)) x.site (partition_of S.net.setting k)

    abbrev put_needs : List Need
    put_needs = x.is_open else 12 ∷ not x.page.is_open else 14 ∷ slot else 22 ∷ room else 21 ∷ []

    abbrev put_waits : Need
    put_waits = let own = heard_at S s k x.site in put_ready x.vec own (clock_at S s k) or_else wait_for x.site (to_pass x.vec own)

    abbrev put : Outcome
    put = serve (view S (PUT s k q l)) (PUT s k q l)

    put_by_last : step S (PUT s k q l) ≡ by_last put_ranges put_needs put_waits put
    unfolding step decide judged judge ranges needs
    put_by_last = refl

    put_fails : number_of (step S (PUT s k q l)).says ≡ 3 → LastFails put_ranges put_needs put_waits put
    unfolding without plain
    put_fails e = last_fails put_ranges put_needs put_waits put tt tt (serve_free is_wait (view S (PUT s k q l)) (PUT s k q l) tt tt tt) (ap (λ o. number_of o.says) (sym put_by_last) ∙ e)

    -- 3, 21 or 22
    abbrev Unready : Outcome → Type 0
    Unready o = let b = number_of o.says in (b ≡ 3) ⊎ ((b ≡ 21) ⊎ (b ≡ 22))

    put_unready : Met put_ranges → Met get_needs → T (not put_waits.holds) → Unready (step S (PUT s k q l))
    unfolding judge plain
    put_unready r n f =
        subst Unready
        (sym (put_by_last ∙ judge-met put_ranges (judge put_needs (judge (put_waits ∷ []) put)) r ∙ judge-met get_needs (judge (slot else 22 ∷ room else 21 ∷ put_waits ∷ []) put) n))
        (cond_elim Unready slot
        (λ a. cond_elim Unready room
        (λ b. cond_elim Unready put_waits.holds (λ h. absurd (T_not put_waits.holds h f)) (λ h. inl refl))
        (λ b. inr (inl refl)))
        (λ a. inr (inr refl)))

-- ---- what is named

-- an event whose needs give no 3
no_wait : (S : State) (e : Event) → T (without is_wait (ranges (view S e).setting e)) → T (without is_wait (needs (view S e) e)) → number_of (step S e).says ≡ 3 → ⊥
no_wait S e r n z = T_not (is_wait (number_of (step S e).says)) (yes_eqb _ 3 z) (step_free is_wait S e tt tt tt r n)

pub names_what_is_short : Waits
unfolding WaitsFor without ranges needs plain get_ready read_ready put_ready to_pass
names_what_is_short S (OPEN s m) e = no_wait S (OPEN s m) tt tt e
names_what_is_short S (CLOSE s) e = no_wait S (CLOSE s) tt tt e
names_what_is_short S (CLOCK m p t) e = no_wait S (CLOCK m p t) tt tt e
names_what_is_short S (GET s k) e =
    let x = S.session s in
    let g = get_fails S s k e in
    rw (get_by_last S s k ∙ g.gives) (short_but x.site x.vec (heard_at S s k) g.fails)
names_what_is_short S (PUT s k q l) e =
    let g = put_fails S s k q l e in
    rw (put_by_last S s k q l ∙ g.gives) (record { site = refl; stamp = refl; short = ltb_no g.fails })
names_what_is_short S (BEGIN s p ks) e = no_wait S (BEGIN s p ks) tt tt e
names_what_is_short S (READ s k) e =
    let x = S.session s in
    let g = read_fails S s k e in
    rw (read_by_last S s k ∙ g.gives) (short_any x.page.vec (heard_at S s k) g.fails)
names_what_is_short S (END s) e = no_wait S (END s) tt tt e
names_what_is_short S (BEAT m p) e = no_wait S (BEAT m p) tt tt e
names_what_is_short S (DELIVER i m p) e = no_wait S (DELIVER i m p) tt tt e

-- ---- the site that is named exists, where open sessions keep to the sites there are

pub record Within (n : ℕ) (x : Session) : Type 0 where
  pub site : x.site < n
  pub vec : (i : ℕ) → n ≤ i → x.vec i ≡ 0
  pub page : (i : ℕ) → n ≤ i → x.page.vec i ≡ 0

-- a site that is short has an entry above 0
within-short : (n : ℕ) (v w : Vec) (P : ℕ → Type 0) (i t : ℕ) → ((j : ℕ) → n ≤ j → v j ≡ 0) → ShortOf v w P i t → i < n
within-short n v w P i t z k = go (dec_lt i n)
  where
    go : Dec (i < n) → i < n
    go (yes l) = l
    go (no l) = let a = k.stamp in let b = k.short in let c = z i (omega arith) in absurd (omega arith)

pub named_exists : (S : State) (n : ℕ) → ((s : ℕ) → s < 16 → T (S.session s).is_open → Within n (S.session s)) → (e : Event) → let a = values_of (step S e).says in a.number ≡ 3 → a.source < n
unfolding WaitsFor
named_exists S n all (GET s k) z =
    let g = get_fails S s k z in
    within-short n _ _ _ _ _ (all s (ltb_yes g.fields.0) g.before.0).vec (names_what_is_short S (GET s k) z)
named_exists S n all (READ s k) z =
    let g = read_fails S s k z in
    within-short n _ _ _ _ _ (all s (ltb_yes g.fields.0) g.before.0).page (names_what_is_short S (READ s k) z)
named_exists S n all (PUT s k q l) z =
    let g = put_fails S s k q l z in
    rw (names_what_is_short S (PUT s k q l) z).site (all s (ltb_yes g.fields.0) g.before.0).site
named_exists S n all (OPEN s m) z = absurd (names_what_is_short S (OPEN s m) z)
named_exists S n all (CLOSE s) z = absurd (names_what_is_short S (CLOSE s) z)
named_exists S n all (CLOCK m p t) z = absurd (names_what_is_short S (CLOCK m p t) z)
named_exists S n all (BEGIN s p ks) z = absurd (names_what_is_short S (BEGIN s p ks) z)
named_exists S n all (END s) z = absurd (names_what_is_short S (END s) z)
named_exists S n all (BEAT m p) z = absurd (names_what_is_short S (BEAT m p) z)
named_exists S n all (DELIVER i m p) z = absurd (names_what_is_short S (DELIVER i m p) z)

-- ---- while it stays short

abbrev GoesOn : (S R : State) (s k : ℕ) → Event → Type 0
GoesOn S R s k e = let a = values_of (step S e).says in a.number ≡ 3 → heard_at R s k a.source < a.stamp → number_of (step R e).says ≡ 3

module _ (S R : State) (s k : ℕ) (L : SameSession S R s) where
  -- what holds of the session in S holds in R
  still : (P : Session → Type 0) → P (S.session s) → P (R.session s)
  still P h = subst P (sym L.session) h

  get_goes_on : GoesOn S R s k (GET s k)
  unfolding WaitsFor get_ready
  get_goes_on e l =
      let g = get_fails S s k e in
      let w = names_what_is_short S (GET s k) e in
      let i = (values_of (step S (GET s k)).says).source in
      let y = R.session s in
      let behind : heard_at R s k i < y.vec i = still (λ z. heard_at R s k i < z.vec i) (let a = w.stamp in omega arith) in
      let f = not_ready_but y.site y.vec (heard_at R s k) i w.site (still (λ z. i ≢ z.site) w.waited) behind in
      ap (λ o. number_of o.says) (get_by_last R s k ∙ still_fails (get_ranges R s k) (get_needs R s k) (get_waits R s k) _ g.fields (still (λ z. T z.is_open × (T (not z.page.is_open) × Unit {0})) g.before) f)

  read_goes_on : GoesOn S R s k (READ s k)
  unfolding WaitsFor read_ready
  read_goes_on e l =
      let g = read_fails S s k e in
      let w = names_what_is_short S (READ s k) e in
      let i = (values_of (step S (READ s k)).says).source in
      let y = R.session s in
      let behind : heard_at R s k i < y.page.vec i = still (λ z. heard_at R s k i < z.page.vec i) (let a = w.stamp in omega arith) in
      let f = not_ready y.page.vec (heard_at R s k) i w.site behind in
      ap (λ o. number_of o.says) (read_by_last R s k ∙ still_fails (get_ranges R s k) (read_needs R s k) (read_waits R s k) _ g.fields (still (λ z. T z.is_open × (T z.page.is_open × (T (awaited k z.page.marks) × Unit {0}))) g.before) f)

pub reads_go_on : ReadsGoOn
reads_go_on S R s k e (inl q) L = subst (GoesOn S R s k) (sym q) (get_goes_on S R s k L)
reads_go_on S R s k e (inr q) L = subst (GoesOn S R s k) (sym q) (read_goes_on S R s k L)

pub puts_go_on : PutsGoOn
unfolding WaitsFor put_ready to_pass
puts_go_on S R s k q l L e own clock =
    let g = put_fails S s k q l e in
    let w = names_what_is_short S (PUT s k q l) e in
    let y = R.session s in
    let i = (values_of (step S (PUT s k q l)).says).source in
    let z : y.site ≡ i = ap (λ (x : Session). x.site) L.session ∙ sym w.site in
    let b : heard_at R s k y.site ≡ heard_at R s k i = ap (heard_at R s k) z in
    let c : largest (S.session s).vec ≡ largest y.vec = still S R s k L (λ (x : Session). largest (S.session s).vec ≡ largest x.vec) refl in
    let d = w.stamp in
    let late : clock_at R s k ≤ max (largest y.vec) (heard_at R s k y.site) = omega arith in
    put_unready R s k q l g.fields (still S R s k L (λ z. T z.is_open × (T (not z.page.is_open) × Unit {0})) (g.before.0, (g.before.1.0, tt)))
    (not_T (ltb (max (largest y.vec) (heard_at R s k y.site)) (clock_at R s k)) (λ t. let h : max (largest y.vec) (heard_at R s k y.site) < clock_at R s k = ltb_yes t in omega arith))
