-- The laws of a channel's bytes: a message that is pushed is the queue's last, and what is popped is its first.
use Prim.Native.Nat.{ℕ, ◌+◌, ◌-◌, ◌%◌, ◌≤◌, ◌<◌}
use native.Mathlib.Omega.{arith}
use mathlib.Core.Path.{◌≡◌, ap, ◌∙◌}
use mathlib.Core.List.{List, [], ◌∷◌, ◌++◌, tail}
use lib.ListN.{length}
use Rattle.codec.specs.Le.{load, put, span, Apart, Bytes}
use Rattle.codec.proofs.Le.{length-put, load-put, load-put-other, load_lt}
use Rattle.codec.proofs.Tabulate.{tab_more, tab_tail}
use Rattle.protocol.specs.Record.{Msg}
use Rattle.record.specs.RecordBytes.{message_at, put_message}
use Rattle.record.specs.Fits.{FitsMsg}
use Rattle.record.proofs.Lengths.{length-put_message}
use Rattle.record.proofs.RecordBytes.{message_ext, load-put_message-other, message_put_message}
use Rattle.parts.specs.Channel.{front_in, wait_in, ring_at, queue_in, pushed, popped}

module _ (m : ℕ) (x : Msg) (c : List ℕ) (l : length c ≡ 464) (room : wait_in c < 8) where
  pub load-pushed : (w j : ℕ) → Apart j w 1 1 → Apart j w (ring_at (front_in c) (wait_in c)) 48 → load w (pushed m x c) j ≡ load w c j
  unfolding pushed
  load-pushed w j o o' =
      load-put-other w 1 (put_message c (ring_at (front_in c) (wait_in c)) m x) 1 (wait_in c + 1) j o
      ∙ load-put_message-other c (ring_at (front_in c) (wait_in c)) m x w j o'

  pub front-pushed : front_in (pushed m x c) ≡ front_in c
  front-pushed = unfold front_in in load-pushed 1 0 (λ k u v y z. omega arith) (λ k u v y z. omega arith)

  pub wait_pushed : wait_in (pushed m x c) ≡ wait_in c + 1
  unfolding pushed wait_in span
  wait_pushed =
      load-put 1 (put_message c (ring_at (front_in c) (wait_in c)) m x) 1 (wait_in c + 1) (omega (arith, length-put_message c (ring_at (front_in c) (wait_in c)) m x)) (omega arith)

  old_pushed : (k : ℕ) → k < wait_in c → message_at (pushed m x c) (ring_at (front_in c) k) ≡ message_at c (ring_at (front_in c) k)
  old_pushed k b =
      message_ext (pushed m x c) c (ring_at (front_in c) k)
      (λ w j p q. load-pushed w j (λ i u v y z. omega arith) (λ i u v y z. omega arith))

  new_pushed : m < 256 → FitsMsg x → message_at (pushed m x c) (ring_at (front_in c) (wait_in c)) ≡ x
  unfolding pushed
  new_pushed h small =
      message_ext (pushed m x c) (put_message c (ring_at (front_in c) (wait_in c)) m x) (ring_at (front_in c) (wait_in c))
      (λ w j p q. load-put-other w 1 (put_message c (ring_at (front_in c) (wait_in c)) m x) 1 (wait_in c + 1) j (λ i u v y z. omega arith))
      ∙ message_put_message c (ring_at (front_in c) (wait_in c)) m x (omega arith) h small

pub queue_pushed : (m : ℕ) (x : Msg) (c : List ℕ) → length c ≡ 464 → m < 256 → FitsMsg x → wait_in c < 8 → queue_in (pushed m x c) ≡ queue_in c ++ (x ∷ [])
unfolding queue_in
queue_pushed m x c l h small room =
    rw (wait_pushed m x c l room, front-pushed m x c l room)
    (tab_more (wait_in c) (λ k. message_at c (ring_at (front_in c) k)) (λ k. message_at (pushed m x c) (ring_at (front_in c) k)) x (old_pushed m x c l room) (new_pushed m x c l room h small))

module _ (c : List ℕ) (l : length c ≡ 464) (bytes : Bytes c) where
  pub load-popped : (w j : ℕ) → 2 ≤ j → load w (popped c) j ≡ load w c j
  unfolding popped
  load-popped w j h =
      load-put-other w 1 (put 1 c 0 ((front_in c + 1) % 8)) 1 (wait_in c - 1) j (λ k u v y z. omega arith)
      ∙ load-put-other w 1 c 0 ((front_in c + 1) % 8) j (λ k u v y z. omega arith)

  pub front-popped : front_in (popped c) ≡ (front_in c + 1) % 8
  unfolding popped front_in span
  front-popped =
      load-put-other 1 1 (put 1 c 0 ((front_in c + 1) % 8)) 1 (wait_in c - 1) 0 (λ k u v y z. omega arith)
      ∙ load-put 1 c 0 ((front_in c + 1) % 8) (omega arith) (omega arith)

  pub wait_popped : wait_in (popped c) ≡ wait_in c - 1
  unfolding popped wait_in span
  wait_popped =
      load-put 1 (put 1 c 0 ((front_in c + 1) % 8)) 1 (wait_in c - 1) (omega (arith, length-put 1 c 0 ((front_in c + 1) % 8))) (omega (arith, load_lt 1 c 1 bytes))

  pub queue_popped : queue_in (popped c) ≡ tail (queue_in c)
  unfolding queue_in
  queue_popped =
      rw (wait_popped, front-popped)
      (tab_tail (wait_in c) (λ k. message_at c (ring_at (front_in c) k)) (λ k. message_at (popped c) (ring_at ((front_in c + 1) % 8) k))
      (λ k b.
      message_ext (popped c) c (ring_at ((front_in c + 1) % 8) k) (λ w j p q. load-popped w j (omega arith))
      ∙ ap (message_at c) (let e : ring_at ((front_in c + 1) % 8) k ≡ ring_at (front_in c) (k + 1) = omega arith in e)))
