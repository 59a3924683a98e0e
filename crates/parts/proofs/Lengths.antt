-- Every change of a node's, a channel's or a session's bytes keeps their number; and, last, the number that each has (`..-keeps`).
use Prim.Native.Nat.{ℕ, suc, ◌+◌, ◌*◌, max}
use mathlib.Core.Path.{◌≡◌, refl, ◌∙◌}
use mathlib.Core.List.{List, [], ◌∷◌}
use lib.ListN.{length}
use Rattle.codec.specs.Le.{load, put}
use Rattle.codec.specs.Part.{Keeps}
use Rattle.codec.proofs.Le.{length-put}
use Rattle.vector.proofs.Entries.{length-put_vec}
use Rattle.protocol.specs.Record.{Msg, Update, Heartbeat, stamp_in}
use Rattle.protocol.specs.State.{Mark, Session}
use Rattle.record.specs.RecordBytes.{put_record, put_message}
use Rattle.record.proofs.Lengths.{length-put_message, length-put_record}
use Rattle.parts.specs.Node.{slot_at, held_in, clock_set, stored, published, received}
use Rattle.parts.specs.Channel.{ring_at, front_in, wait_in, pushed, popped}
use Rattle.parts.specs.Session.{flag, put_marks, put_session}

-- ---- a node

pub length-clock_set : (t : ℕ) (n : List ℕ) → length (clock_set t n) ≡ length n
unfolding clock_set
length-clock_set t n = length-put 8 n 0 t

pub length-stored : (x : Msg) (n : List ℕ) → length (stored x n) ≡ length n
unfolding stored
length-stored (Update r) n = length-put 1 (put_record n (slot_at (held_in n)) 1 r) 40 (held_in n + 1) ∙ length-put_record n (slot_at (held_in n)) 1 r
length-stored (Heartbeat t) n = refl

pub length-published : (m : ℕ) (x : Msg) (n : List ℕ) → length (published m x n) ≡ length n
unfolding published
length-published m x n = length-stored x (put 8 n (8 + 8 * m) (stamp_in x)) ∙ length-put 8 n (8 + 8 * m) (stamp_in x)

pub length-received : (i : ℕ) (x : Msg) (n : List ℕ) → length (received i x n) ≡ length n
unfolding received
length-received i x n =
    length-stored x (put 8 n (8 + 8 * i) (max (load 8 n (8 + 8 * i)) (stamp_in x))) ∙ length-put 8 n (8 + 8 * i) (max (load 8 n (8 + 8 * i)) (stamp_in x))

-- ---- a channel

pub length-pushed : (m : ℕ) (x : Msg) (c : List ℕ) → length (pushed m x c) ≡ length c
unfolding pushed
length-pushed m x c =
    length-put 1 (put_message c (ring_at (front_in c) (wait_in c)) m x) 1 (wait_in c + 1) ∙ length-put_message c (ring_at (front_in c) (wait_in c)) m x

pub length-popped : (c : List ℕ) → length (popped c) ≡ length c
unfolding popped
length-popped c = simp length-put

-- ---- a session

pub length-put_marks : (b : List ℕ) (i : ℕ) (ms : List Mark) → length (put_marks b i ms) ≡ length b
unfolding put_marks
length-put_marks b i [] = refl
length-put_marks b i (m ∷ ms) = length-put_marks (put 1 (put 1 b (8 + i) m.key) (16 + i) (flag m.read)) (suc i) ms ∙ simp length-put

pub length-put_session : (x : Session) (b : List ℕ) → length (put_session x b) ≡ length b
unfolding put_session
length-put_session x b = simp (length-put_marks, length-put_vec, length-put)

-- ---- as something that is done to a part

pub clock_set_keeps : (t : ℕ) → Keeps 1856 (clock_set t)
clock_set_keeps t n e = length-clock_set t n ∙ e

pub published_keeps : (m : ℕ) (x : Msg) → Keeps 1856 (published m x)
published_keeps m x n e = length-published m x n ∙ e

pub received_keeps : (i : ℕ) (x : Msg) → Keeps 1856 (received i x)
received_keeps i x n e = length-received i x n ∙ e

pub pushed_keeps : (m : ℕ) (x : Msg) → Keeps 464 (pushed m x)
pushed_keeps m x c e = length-pushed m x c ∙ e

pub popped_keeps : Keeps 464 popped
popped_keeps c e = length-popped c ∙ e

pub put_session_keeps : (x : Session) → Keeps 128 (put_session x)
put_session_keeps x b e = length-put_session x b ∙ e
