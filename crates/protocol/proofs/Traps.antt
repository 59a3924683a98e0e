-- Four traps that replication falls into: for each, the protocol with that one rule changed, and a closed run on which it differs from ours. On
-- the first three it also breaks demand 3.
use Prim.Native.Nat.{ℕ}
use mathlib.Core.Path.{◌≡◌, refl, ap, subst}
use mathlib.Core.Bool.{Bool, not, ◌&&◌}
use mathlib.Core.List.Memᴰ
use mathlib.Core.List.{List, [], ◌∷◌, ◌++◌, flat_map}
use mathlib.Core.Option.{Option, some, none}
use lib.Dec.{leb, ltb}
use lib.IntN.{pos}
use Rattle.vector.specs.Vec.{Vec, largest, with_entry, at_least}
use Rattle.protocol.specs.Record.{Setting, partition_of, Id, Rec, Update, of_key, fits_page, raised_by}
use Rattle.protocol.specs.Shelf.{found}
use Rattle.protocol.specs.State.{Session, State, with_vec, with_page, setup}
use Rattle.protocol.specs.Event.{Event, OPEN, CLOSE, CLOCK, GET, PUT, BEGIN, READ, END, BEAT, DELIVER, Answer, Stamped, Nothing, wait_for, shown}
use Rattle.protocol.specs.View.{View, view}
use Rattle.protocol.specs.Needs.{◌or_else◌, ◌else◌, ranges, to_pass, put_ready, store_room, send_room, needs}
use Rattle.protocol.specs.Change.{SetSession, Publish, apply_all}
use Rattle.protocol.specs.Serve.{Outcome, ◌and◌, read_on, written, serve}
use Rattle.protocol.specs.Step.{judge, judged, decide, Line, log}
use Rattle.protocol.specs.Past.{◌∈◌, History, served, shown_in, shown_on, same_id, writer_past, with_pasts, tell, wrote, note_served, note, start, retell, history}
use Rattle.protocol.specs.Causal.{NoOlder, Covers, CoversAll, GetCausal, PageCausal}
use Rattle.protocol.proofs.Runs.{computing, waiting, showing}

-- ---- the protocol by other rules: how a GET raises, which records a READ shows, when a PUT is served, what its record carries

record Rules : Type 0 where
  raises : Vec → Option Rec → Vec
  fits : ℕ → Vec → Rec → Bool
  ready : (session : Vec) (own clock : ℕ) → Bool
  carries : Session → (stamp : ℕ) → Vec

unfoldable ours : Rules
ours = record { raises = raised_by; fits = fits_page; ready = put_ready; carries = λ x t. x.vec }

unfoldable carrying : Rec → Vec → Rec
carrying r v = record { id = r.id; quality = r.quality; level = r.level; carried = v }

unfoldable judged_by : Rules → View → Event → Outcome
judged_by R v (OPEN s m) = judged v (OPEN s m)
judged_by R v (CLOSE s) = judged v (CLOSE s)
judged_by R v (CLOCK m p t) = judged v (CLOCK m p t)
judged_by R v (GET s k) =
    let x = v.session in
    let o = found v.setting (of_key k) (v.store (partition_of v.setting k)) in
    judge (needs v (GET s k)) (shown o and SetSession s (with_vec x (R.raises x.vec o)) ∷ [])
judged_by R v (PUT s k q l) =
    let x = v.session in
    let p = partition_of v.setting k in
    let t = v.clock p in
    judge (x.is_open else 12 ∷ not x.page.is_open else 14 ∷ store_room (v.store p) else 22 ∷ send_room v x.site p else 21 ∷ R.ready x.vec (v.heard p x.site) t or_else wait_for x.site (to_pass x.vec (v.heard p x.site)) ∷ [])
    (Stamped x.site t and
    Publish x.site p (Update (carrying (written x k q l t) (R.carries x t))) ∷
    SetSession s (with_vec x (with_entry x.vec x.site t)) ∷ [])
judged_by R v (BEGIN s p ks) = judged v (BEGIN s p ks)
judged_by R v (READ s k) =
    let x = v.session in
    let o = found v.setting (R.fits k x.page.vec) (v.store (partition_of v.setting k)) in
    judge (needs v (READ s k)) (shown o and SetSession s (with_page x (read_on x.page k o)) ∷ [])
judged_by R v (END s) = judged v (END s)
judged_by R v (BEAT m p) = judged v (BEAT m p)
judged_by R v (DELIVER i m p) = judged v (DELIVER i m p)

unfoldable decide_by : Rules → View → Event → Outcome
decide_by R v e = judge (ranges v.setting e) (judged_by R v e)

-- with no rule changed it is ours
ours_judged : (v : View) (e : Event) → judged_by ours v e ≡ judged v e
unfolding judged_by ours carrying judged serve needs written
ours_judged v (OPEN s m) = refl
ours_judged v (CLOSE s) = refl
ours_judged v (CLOCK m p t) = refl
ours_judged v (GET s k) = refl
ours_judged v (PUT s k q l) = refl
ours_judged v (BEGIN s p ks) = refl
ours_judged v (READ s k) = refl
ours_judged v (END s) = refl
ours_judged v (BEAT m p) = refl
ours_judged v (DELIVER i m p) = refl

ours_is : (v : View) (e : Event) → decide_by ours v e ≡ decide v e
unfolding decide_by decide
ours_is v e = ap (judge (ranges v.setting e)) (ours_judged v e)

unfoldable log_by : Rules → State → List Event → List Line
log_by R S [] = []
log_by R S (e ∷ es) = let o = decide_by R (view S e) e in record { event = e; says = o.says } ∷ log_by R (apply_all o.changes S) es

unfoldable four : Setting
four = record { sites = 4; partitions = 4 }

unfoldable past : Unit {0}
unfolding computing ours carrying judged_by decide_by log_by four served shown_in shown_on same_id writer_past with_pasts flat_map tell wrote note_served note start retell history NoOlder Covers CoversAll
past = tt

abbrev named : (key source stamp : ℕ) → Id
named k m t = record { key = k; source = m; stamp = t }

-- an answer that shows y alone does not cover a newer record
not_covered : (c : Setting) (k : ℕ) (a : Answer) (y x : Id) → shown_in k a ≡ y ∷ [] → (NoOlder c y x → ⊥) → Covers c k a x → ⊥
unfolding Covers
not_covered c k a y x e n h = n (subst (λ z. NoOlder c z x) (Memᴰ.eq_of_singleton (rw e at h.1)) h.2)

-- an answer that shows nothing covers no record of the past
nothing_breaks : (c : Setting) (h : History) (s : ℕ) (x : Id) → x ∈ (h.of s).past → GetCausal c h s x.key Nothing → ⊥
unfolding CoversAll Covers shown_in served
nothing_breaks c h s x m g = Memᴰ.not-nil (g.covers tt x m refl).1

-- the last answer of a run
unfoldable last_of : List Line → Answer
last_of [] = Nothing
last_of (l ∷ []) = l.says
last_of (l ∷ m ∷ ls) = last_of (m ∷ ls)

-- on the events the last answer is `mine` by our rules, and `other` by the changed ones
record Differ (R : Rules) (es : List Event) (mine other : Answer) : Type 0 where
  ours_says : last_of (log (setup four) es) ≡ mine
  trap_says : last_of (log_by R (setup four) es) ≡ other

-- ---- 1. Raising a session only by the shown stamp and not by the carried vector: a chain of three gauges breaks

unfoldable stamp_only : Vec → Option Rec → Vec
stamp_only v none = v
stamp_only v (some r) = at_least v r.id.source r.id.stamp

unfoldable by_stamp_only : Rules
by_stamp_only = record { raises = stamp_only; fits = fits_page; ready = put_ready; carries = λ x t. x.vec }

-- X at site 0, then Y at site 1 by a session that saw X, then Z at site 2 by one that saw Y; site 3 sees Z, and X is still on its way there
unfoldable chain : List Event
chain =
    OPEN 0 0 ∷ OPEN 1 1 ∷ OPEN 2 2 ∷ OPEN 3 3 ∷ CLOCK 0 0 10 ∷ PUT 0 0 0 (pos 1) ∷ DELIVER 0 1 0 ∷ GET 1 0 ∷ CLOCK 1 1 20 ∷ PUT 1 1 0 (pos 2)
    ∷ DELIVER 1 2 1 ∷ GET 2 1 ∷ CLOCK 2 2 30 ∷ PUT 2 2 0 (pos 3) ∷ DELIVER 2 3 2 ∷ GET 3 2 ∷ CLOCK 2 0 30 ∷ BEAT 2 0 ∷ DELIVER 2 3 0 ∷ []

chain_differs : Differ by_stamp_only (chain ++ (GET 3 0 ∷ [])) (waiting 0 10) Nothing
unfolding past last_of stamp_only by_stamp_only chain
chain_differs = record { ours_says = refl; trap_says = refl }

chain_past : ((history (log_by by_stamp_only (setup four) chain)).of 3).past ≡ named 2 2 30 ∷ named 1 1 20 ∷ named 0 0 10 ∷ []
unfolding past stamp_only by_stamp_only chain
chain_past = refl

chain_breaks : GetCausal four (history (log_by by_stamp_only (setup four) chain)) 3 0 Nothing → ⊥
chain_breaks = nothing_breaks four (history (log_by by_stamp_only (setup four) chain)) 3 (named 0 0 10) (rw chain_past (Memᴰ.tail (Memᴰ.tail (Memᴰ.head refl))))

-- ---- 2. Serving a page as separate GETs: shows Y' beside X where a newer X lies between

unfoldable as_gets : Rules
as_gets = record { raises = raised_by; fits = λ k v. of_key k; ready = put_ready; carries = λ x t. x.vec }

unfoldable between : List Event
between =
    OPEN 0 0 ∷ OPEN 1 0 ∷ CLOCK 0 0 10 ∷ PUT 0 0 0 (pos 1) ∷ BEGIN 1 0 (0 ∷ 1 ∷ []) ∷ READ 1 0 ∷ CLOCK 0 0 20 ∷ PUT 0 0 0 (pos 2) ∷ CLOCK 0 1 30 ∷ PUT 0 1 0 (pos 3)
    ∷ READ 1 1 ∷ []

between_differs : Differ as_gets between Nothing (showing 0 0 (pos 3) 30)
unfolding past last_of as_gets between
between_differs = record { ours_says = refl; trap_says = refl }

between_breaks : PageCausal four (history (log_by as_gets (setup four) between)) 1 → ⊥
unfolding past as_gets between
between_breaks g =
    not_covered four 0 (showing 0 0 (pos 1) 10) (named 0 0 10) (named 0 0 20) refl (λ n. n)
    (g.together (record { key = 0; says = showing 0 0 (pos 1) 10 }) (record { key = 1; says = showing 0 0 (pos 3) 30 }) (Memᴰ.tail (Memᴰ.head refl)) (Memᴰ.head refl)
    (named 1 0 30) (Memᴰ.head refl) (named 0 0 20) (Memᴰ.head refl) refl)

-- ---- 3. Stamping a PUT equal to an earlier heartbeat: a reader counts it as heard before it arrives

unfoldable at_heartbeat : Rules
at_heartbeat = record { raises = raised_by; fits = fits_page; ready = λ session own clock. ltb (largest session) clock && leb own clock; carries = λ x t. x.vec }

-- X is stamped as the heartbeat before it; site 2 sees X and writes Y; site 1 has the heartbeat and Y, and X is still on its way there
unfoldable early : List Event
early =
    OPEN 0 0 ∷ OPEN 1 1 ∷ OPEN 2 2 ∷ CLOCK 0 0 10 ∷ BEAT 0 0 ∷ PUT 0 0 0 (pos 1) ∷ []

unfoldable unheard : List Event
unheard =
    DELIVER 0 2 0 ∷ DELIVER 0 2 0 ∷ GET 2 0 ∷ CLOCK 2 1 20 ∷ PUT 2 1 0 (pos 2) ∷ DELIVER 2 1 1 ∷ DELIVER 0 1 0 ∷ CLOCK 2 0 20 ∷ BEAT 2 0 ∷ DELIVER 2 1 0
    ∷ GET 1 1 ∷ []

early_differs : Differ at_heartbeat early (waiting 0 10) (Stamped 0 10)
unfolding past last_of at_heartbeat early
early_differs = record { ours_says = refl; trap_says = refl }

early_shows : last_of (log_by at_heartbeat (setup four) (early ++ unheard ++ (GET 1 0 ∷ []))) ≡ Nothing
unfolding past last_of at_heartbeat early unheard
early_shows = refl

early_past : ((history (log_by at_heartbeat (setup four) (early ++ unheard))).of 1).past ≡ named 1 2 20 ∷ named 0 0 10 ∷ []
unfolding past at_heartbeat early unheard
early_past = refl

early_breaks : GetCausal four (history (log_by at_heartbeat (setup four) (early ++ unheard))) 1 0 Nothing → ⊥
early_breaks = nothing_breaks four (history (log_by at_heartbeat (setup four) (early ++ unheard))) 1 (named 0 0 10) (rw early_past (Memᴰ.tail (Memᴰ.head refl)))

-- ---- 4. Storing the raised vector in the record, its own stamp included: a page misses a record that it should show

unfoldable own_included : Rules
own_included = record { raises = raised_by; fits = fits_page; ready = put_ready; carries = λ x t. with_entry x.vec x.site t }

unfoldable missed : List Event
missed = OPEN 0 0 ∷ OPEN 1 0 ∷ CLOCK 0 0 10 ∷ PUT 0 0 0 (pos 1) ∷ BEGIN 1 1 (0 ∷ []) ∷ READ 1 0 ∷ []

missed_differs : Differ own_included missed (showing 0 0 (pos 1) 10) Nothing
unfolding past last_of own_included missed
missed_differs = record { ours_says = refl; trap_says = refl }
