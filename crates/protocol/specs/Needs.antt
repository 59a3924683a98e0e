-- What each event needs, from top to bottom (R40 to R51, R60), and the number given where a need fails. 3 is a wait, and says what it waits for.
-- 23, 24, 10 and the unused fields of 11 are about bytes and stand around the model.
use Rattle.std.specs.Prelude.{ℕ, max, Bool, true, false, not, ◌&&◌, ◌||◌, List, [], ◌∷◌, length, leb, ltb, eqb, ℤ, pos, negsuc}
use Rattle.codec.specs.Below.{all_below}
use Rattle.codec.specs.Lists.{has}
use Rattle.vector.specs.Vec.{Vec, at_most, at_most_but, first_short, first_short_but, largest}
use Rattle.protocol.specs.Record.{Setting, partition_of, Rec, Msg, Update, Heartbeat}
use Rattle.protocol.specs.Times.{time_limit}
use Rattle.protocol.specs.State.{Mark}
use Rattle.protocol.specs.Event.{Event, OPEN, CLOSE, CLOCK, GET, PUT, BEGIN, READ, END, BEAT, DELIVER, Refusal, plain, wait_for}
use Rattle.protocol.specs.View.{View}

infix 80 ◌or_else◌
infix 80 ◌else◌
pub record Need : Type 0 where
  pub holds : Bool
  pub refusal : Refusal

abbrev pub ◌or_else◌ : Bool → Refusal → Need
b or_else w = record { holds = b; refusal = w }

abbrev pub ◌else◌ : Bool → ℕ → Need
b else n = b or_else plain n

-- ---- 11: the range of each used field (R32), in the order of the event's bytes

-- R6: −50,000 to 1,000,000; negsuc n is −(n + 1)
unfoldable pub level_lawful : ℤ → Bool
level_lawful (pos n) = leb n 1000000
level_lawful (negsuc n) = ltb n 50000

unfoldable pub keys_lawful : List ℕ → Bool
keys_lawful [] = true
keys_lawful (k ∷ ks) = ltb k 64 && keys_lawful ks

unfoldable pub ranges : Setting → Event → List Need
ranges c (OPEN s m) = ltb m c.sites else 11 ∷ ltb s 16 else 11 ∷ []
ranges c (CLOSE s) = ltb s 16 else 11 ∷ []
ranges c (CLOCK m p t) = ltb m c.sites else 11 ∷ ltb p c.partitions else 11 ∷ ltb t time_limit else 11 ∷ []
ranges c (GET s k) = ltb s 16 else 11 ∷ ltb k 64 else 11 ∷ []
ranges c (PUT s k q l) = ltb s 16 else 11 ∷ ltb k 64 else 11 ∷ ltb q 3 else 11 ∷ level_lawful l else 11 ∷ []
ranges c (BEGIN s p ks) =
    ltb p c.partitions else 11 ∷ ltb s 16 else 11 ∷ (ltb 0 (length ks) && leb (length ks) 8) else 11 ∷ keys_lawful ks else 11 ∷ []
ranges c (READ s k) = ltb s 16 else 11 ∷ ltb k 64 else 11 ∷ []
ranges c (END s) = ltb s 16 else 11 ∷ []
ranges c (BEAT m p) = ltb m c.sites else 11 ∷ ltb p c.partitions else 11 ∷ []
ranges c (DELIVER i m p) = ltb m c.sites else 11 ∷ ltb p c.partitions else 11 ∷ (ltb i c.sites && not (eqb i m)) else 11 ∷ []

-- ---- tests

-- R44, GET at site m: the node's entry for every other site is at least the session's
unfoldable pub get_ready : (m : ℕ) (node session : Vec) → Bool
get_ready m node session = at_most_but m session node

-- R45, PUT: the stamp that the clock must pass, every entry of the session's vector and the node's own entry
unfoldable pub to_pass : (session : Vec) (own : ℕ) → ℕ
to_pass session own = max (largest session) own

unfoldable pub put_ready : (session : Vec) (own clock : ℕ) → Bool
put_ready session own clock = ltb (to_pass session own) clock

-- R47, READ: every entry of the node's vector is at least the page's
unfoldable pub read_ready : (node page : Vec) → Bool
read_ready node page = at_most page node

-- R49, BEAT sends: the clock is greater than the node's own entry
unfoldable pub beat_sends : (own clock : ℕ) → Bool
beat_sends own clock = ltb own clock

unfoldable pub store_room : List Rec → Bool
store_room l = ltb (length l) 32

-- no channel from site m to another, at partition p, holds 8
unfoldable pub send_room : View → (m p : ℕ) → Bool
send_room v m p = all_below v.setting.sites (λ j. eqb j m || ltb (v.sent p j) 8)

unfoldable pub front_updates : List Msg → Bool
front_updates [] = false
front_updates (Update r ∷ l) = true
front_updates (Heartbeat t ∷ l) = false

unfoldable pub distinct : List ℕ → Bool
distinct [] = true
distinct (k ∷ ks) = not (has ks k) && distinct ks

-- k is on the page and not read yet
unfoldable pub awaited : ℕ → List Mark → Bool
awaited k [] = false
awaited k (m ∷ ms) = (eqb m.key k && not m.read) || awaited k ms

unfoldable pub all_read : List Mark → Bool
all_read [] = true
all_read (m ∷ ms) = m.read && all_read ms

-- ---- the table, from top to bottom

unfoldable pub needs : View → Event → List Need
needs v (OPEN s m) = not v.session.is_open else 13 ∷ []
needs v (CLOSE s) = v.session.is_open else 12 ∷ []
needs v (CLOCK m p t) = leb (v.clock p) t else 19 ∷ []
needs v (GET s k) =
    let x = v.session in
    let node = v.heard (partition_of v.setting k) in
    let short = first_short_but x.site x.vec node in
    x.is_open else 12 ∷
    not x.page.is_open else 14 ∷
    get_ready x.site node x.vec or_else wait_for short (x.vec short) ∷ []
needs v (PUT s k q l) =
    let x = v.session in
    let p = partition_of v.setting k in
    let own = v.heard p x.site in
    x.is_open else 12 ∷
    not x.page.is_open else 14 ∷
    store_room (v.store p) else 22 ∷
    send_room v x.site p else 21 ∷
    put_ready x.vec own (v.clock p) or_else wait_for x.site (to_pass x.vec own) ∷ []
needs v (BEGIN s p ks) =
    let x = v.session in
    x.is_open else 12 ∷
    not x.page.is_open else 14 ∷
    distinct ks else 17 ∷ []
needs v (READ s k) =
    let x = v.session in
    let node = v.heard (partition_of v.setting k) in
    let short = first_short x.page.vec node in
    x.is_open else 12 ∷
    x.page.is_open else 15 ∷
    awaited k x.page.marks else 16 ∷
    read_ready node x.page.vec or_else wait_for short (x.page.vec short) ∷ []
needs v (END s) =
    let x = v.session in
    x.is_open else 12 ∷
    x.page.is_open else 15 ∷
    all_read x.page.marks else 18 ∷ []
needs v (BEAT m p) = (not (beat_sends (v.heard p m) (v.clock p)) || send_room v m p) else 21 ∷ []
needs v (DELIVER i m p) =
    ltb 0 (length v.front) else 20 ∷
    (not (front_updates v.front) || store_room (v.store p)) else 22 ∷ []
