-- The lines of vectors/01/document-01.events, what waits name, and a page with its refusals, computed by the checker.
use Prim.Native.Nat.{ℕ}
use mathlib.Core.Path.{◌≡◌, refl}
use mathlib.Core.List.{List, [], ◌∷◌}
use lib.IntN.{ℤ, pos, negsuc}
use Rattle.codec.specs.Below.{all_below, first_not}
use Rattle.vector.specs.Vec.{at_most, at_most_but, first_short, first_short_but, largest_of, largest, with_entry, at_least, larger, raised}
use Rattle.protocol.specs.Record.{stamp_in, records_in, rank, newer, newer_of, newest, of_key, fits_page, raised_by}
use Rattle.protocol.specs.Shelf.{shelve, found}
use Rattle.protocol.specs.State.{no_page, closed, opened, setup}
use Rattle.protocol.specs.Event.{Event, OPEN, CLOSE, CLOCK, GET, PUT, BEGIN, READ, END, BEAT, DELIVER, Answer, Done, Stamped, Value, Refused, plain, wait_for, shown}
use Rattle.protocol.specs.Needs.{level_lawful, keys_lawful, ranges, get_ready, to_pass, put_ready, read_ready, beat_sends, store_room, send_room, front_updates, distinct, awaited, all_read, needs}
use Rattle.protocol.specs.Change.{upd, at, set_clock, publish, receive, apply, apply_all}
use Rattle.protocol.specs.Serve.{written, unread, mark_read, begun, read_on, taken, serve}
use Rattle.protocol.specs.Step.{judge, judged, decide, step, next, Line, log}

unfoldable pub answers : List Line → List Answer
answers [] = []
answers (l ∷ ls) = l.says ∷ answers ls

-- a proof that unfolds this lets the checker compute whole runs
unfoldable pub computing : Unit {0}
unfolding answers log step decide judge judged next serve needs ranges all_below first_not at_most at_most_but first_short first_short_but largest_of largest with_entry at_least larger raised stamp_in records_in rank newer newer_of newest of_key fits_page raised_by no_page closed opened setup plain shown level_lawful keys_lawful get_ready to_pass put_ready read_ready beat_sends store_room send_room front_updates distinct awaited all_read shelve found upd at set_clock publish receive apply apply_all written unread mark_read begun read_on taken
computing = tt

abbrev pub refused : ℕ → Answer
refused n = Refused (plain n)

abbrev pub waiting : (site stamp : ℕ) → Answer
waiting m t = Refused (wait_for m t)

abbrev pub showing : (source quality : ℕ) (level : ℤ) (stamp : ℕ) → Answer
showing m q l t = Value (record { source = m; quality = q; level = l; stamp = t })

-- ---- the bench

bench_events : List Event
bench_events =
    OPEN 0 0
    ∷ OPEN 1 1
    ∷ CLOCK 0 0 100
    ∷ PUT 0 4 0 (pos 1250)
    ∷ CLOCK 0 1 100
    ∷ PUT 0 5 1 (negsuc 29)
    ∷ CLOCK 0 1 101
    ∷ PUT 0 5 1 (negsuc 29)
    ∷ DELIVER 0 1 1
    ∷ GET 1 5
    ∷ GET 1 4
    ∷ DELIVER 0 1 0
    ∷ GET 1 4
    ∷ CLOCK 0 0 101
    ∷ BEAT 0 0
    ∷ DELIVER 0 1 0
    ∷ GET 1 4
    ∷ []

bench_answers : List Answer
bench_answers =
    Done
    ∷ Done
    ∷ Done
    ∷ Stamped 0 100
    ∷ Done
    ∷ waiting 0 100
    ∷ Done
    ∷ Stamped 0 101
    ∷ Done
    ∷ showing 0 1 (negsuc 29) 101
    ∷ waiting 0 101
    ∷ Done
    ∷ waiting 0 101
    ∷ Done
    ∷ Done
    ∷ Done
    ∷ showing 0 0 (pos 1250) 100
    ∷ []

bench : answers (log (setup (record { sites = 4; partitions = 4 })) bench_events) ≡ bench_answers
unfolding computing bench_events bench_answers
bench = refl

-- ---- what waits name: the first of two sites, then the second; a READ its own; a PUT the node's own entry, and what its session has seen

wait_events : List Event
wait_events =
    OPEN 0 0
    ∷ OPEN 1 1
    ∷ OPEN 2 2
    ∷ CLOCK 0 0 10
    ∷ PUT 0 0 0 (pos 1)
    ∷ CLOCK 1 0 12
    ∷ PUT 1 2 0 (pos 2)
    ∷ DELIVER 0 2 0
    ∷ GET 2 0
    ∷ DELIVER 1 2 0
    ∷ GET 2 2
    ∷ GET 2 1
    ∷ CLOCK 0 1 10
    ∷ BEAT 0 1
    ∷ DELIVER 0 2 1
    ∷ GET 2 1
    ∷ CLOCK 2 0 20
    ∷ BEAT 2 0
    ∷ BEGIN 2 0 (1 ∷ [])
    ∷ CLOCK 1 1 12
    ∷ BEAT 1 1
    ∷ DELIVER 1 2 1
    ∷ READ 2 1
    ∷ CLOSE 2
    ∷ OPEN 2 2
    ∷ PUT 2 0 0 (pos 3)
    ∷ GET 2 0
    ∷ PUT 2 1 0 (pos 4)
    ∷ []

wait_answers : List Answer
wait_answers =
    Done
    ∷ Done
    ∷ Done
    ∷ Done
    ∷ Stamped 0 10
    ∷ Done
    ∷ Stamped 1 12
    ∷ Done
    ∷ showing 0 0 (pos 1) 10
    ∷ Done
    ∷ showing 1 0 (pos 2) 12
    ∷ waiting 0 10
    ∷ Done
    ∷ Done
    ∷ Done
    ∷ waiting 1 12
    ∷ Done
    ∷ Done
    ∷ Done
    ∷ Done
    ∷ Done
    ∷ Done
    ∷ waiting 2 20
    ∷ Done
    ∷ Done
    ∷ waiting 2 20
    ∷ showing 0 0 (pos 1) 10
    ∷ waiting 2 10
    ∷ []

names : answers (log (setup (record { sites = 3; partitions = 2 })) wait_events) ≡ wait_answers
unfolding computing wait_events wait_answers
names = refl

-- ---- a page, and every refusal of the model but 21 and 22

page_events : List Event
page_events =
    OPEN 0 0
    ∷ OPEN 1 0
    ∷ OPEN 1 0
    ∷ CLOCK 0 0 10
    ∷ CLOCK 0 1 20
    ∷ PUT 0 0 0 (pos 5)
    ∷ PUT 0 1 0 (pos 1000001)
    ∷ PUT 0 1 0 (pos 6)
    ∷ READ 1 0
    ∷ BEGIN 1 0 (0 ∷ 0 ∷ [])
    ∷ BEGIN 1 0 (0 ∷ 64 ∷ [])
    ∷ BEGIN 1 0 []
    ∷ BEGIN 1 0 (0 ∷ 1 ∷ [])
    ∷ GET 1 0
    ∷ READ 1 0
    ∷ END 1
    ∷ READ 1 2
    ∷ READ 1 1
    ∷ READ 1 1
    ∷ END 1
    ∷ END 1
    ∷ CLOCK 0 0 9
    ∷ DELIVER 0 1 1
    ∷ DELIVER 0 1 1
    ∷ DELIVER 0 0 1
    ∷ CLOSE 1
    ∷ GET 1 0
    ∷ []

page_answers : List Answer
page_answers =
    Done
    ∷ Done
    ∷ refused 13
    ∷ Done
    ∷ Done
    ∷ Stamped 0 10
    ∷ refused 11
    ∷ Stamped 0 20
    ∷ refused 15
    ∷ refused 17
    ∷ refused 11
    ∷ refused 11
    ∷ Done
    ∷ refused 14
    ∷ showing 0 0 (pos 5) 10
    ∷ refused 18
    ∷ refused 16
    ∷ showing 0 0 (pos 6) 20
    ∷ refused 16
    ∷ Done
    ∷ refused 15
    ∷ refused 19
    ∷ Done
    ∷ refused 20
    ∷ refused 11
    ∷ Done
    ∷ refused 12
    ∷ []

page : answers (log (setup (record { sites = 2; partitions = 2 })) page_events) ≡ page_answers
unfolding computing page_events page_answers
page = refl
