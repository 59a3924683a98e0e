-- R30. An event is 32 bytes: 0 code, 1 site, 2 partition, 3 session, 4 key, 5 quality, 6 from, 7 count, 8–15 time, 16–19 level (signed), 20–27 page
-- keys, 28–31 zero. Here is the event that they say, for any bytes.
use Rattle.std.specs.Prelude.{ℕ, ◌+◌, ◌-◌, Bool, ◌&&◌, true, List, [], ◌∷◌, ltb, get_or}
use Rattle.codec.specs.Le.{load}
use Rattle.codec.specs.Level.{level_from}
use Rattle.codec.specs.Tabulate.{tabulate}
use Rattle.protocol.specs.Event.{Event, OPEN, CLOSE, CLOCK, GET, PUT, BEGIN, READ, END, BEAT, DELIVER}
use Rattle.protocol.specs.Needs.{Need}

-- the code is 1 to 10; if not, the number is 10
unfoldable pub code_lawful : List ℕ → Bool
code_lawful e = ltb 0 (load 1 e 0) && ltb (load 1 e 0) 11

-- a page has as many keys as the count says; a code that is none also reads as some event, and 10 comes before it
unfoldable pub event_of : List ℕ → Event
event_of e =
    let m = load 1 e 1 in
    let p = load 1 e 2 in
    let s = load 1 e 3 in
    let k = load 1 e 4 in
    get_or
    (OPEN s m
    ∷ CLOSE s
    ∷ CLOCK m p (load 8 e 8)
    ∷ GET s k
    ∷ PUT s k (load 1 e 5) (level_from (load 4 e 16))
    ∷ BEGIN s p (tabulate (load 1 e 7) (λ i. load 1 e (20 + i)))
    ∷ READ s k
    ∷ END s
    ∷ BEAT m p
    ∷ DELIVER (load 1 e 6) m p
    ∷ [])
    (load 1 e 0 - 1) (CLOSE s)

-- all of the needs hold
unfoldable pub met : List Need → Bool
met [] = true
met (n ∷ ns) = n.holds && met ns
