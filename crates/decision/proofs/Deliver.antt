-- What DELIVER is answered, in the words of the bytes. In order: a channel's queue where nothing waits and where something does, and what is
-- answered.
use Prim.Native.Nat.{ℕ, suc, ◌-◌, ◌<◌}
use native.Mathlib.Omega.{arith}
use mathlib.Core.Path.{◌≡◌, ap, ◌∙◌}
use mathlib.Core.Bool.{cond, not, ◌&&◌}
use mathlib.Core.List.{List, [], ◌∷◌}
use lib.Dec.{ltb}
use borrow.Author.Tests.{lt-ltb, ne_eqb}
use Rattle.codec.specs.Tabulate.{tabulate}
use Rattle.protocol.specs.Record.{Msg}
use Rattle.protocol.specs.State.{closed}
use Rattle.protocol.specs.Event.{DELIVER}
use Rattle.protocol.specs.Needs.{front_updates}
use Rattle.protocol.specs.Change.{Receive}
use Rattle.protocol.specs.Serve.{◌and◌}
use Rattle.protocol.specs.Step.{judged}
use Rattle.protocol.specs.declared.Answer.TheVariants.{Done}
use Rattle.protocol.proofs.Ladders.{refuse}
use Rattle.protocol.proofs.Ladders as Protocol
use Rattle.record.specs.RecordBytes.{message_at}
use Rattle.parts.specs.Node.{held_in}
use Rattle.parts.specs.Channel.{ring_at, front_in, wait_in, queue_in}
use Rattle.table.specs.Parts.{place_of, site_of, node_of, channel_of}
use Rattle.table.specs.Decode.{decode}
use Rattle.decision.specs.Answered.{answered}
use Rattle.decision.proofs.Room.{store-room}
use Rattle.decision.proofs.Ladders.{sight}

-- ---- a channel's queue

-- the message in front
abbrev pub first_in : List ℕ → Msg
first_in c = message_at c (ring_at (front_in c) 0)

pub queue_none : (c : List ℕ) → wait_in c ≡ 0 → queue_in c ≡ []
unfolding queue_in tabulate
queue_none c e = rw e

pub queue_some : (c : List ℕ) → 0 < wait_in c → queue_in c ≡ first_in c ∷ tabulate (wait_in c - 1) (λ k. message_at c (ring_at (front_in c) (suc k)))
unfolding queue_in tabulate
queue_some c h =
    let e : wait_in c ≡ suc (wait_in c - 1) = omega arith in
    ap (λ n. tabulate n (λ k. message_at c (ring_at (front_in c) k))) e

-- ---- what is answered, by the channel's bytes

module _ (t : List ℕ) (i m p : ℕ) (h : m < 4) (d : i ≡ m → ⊥) where
  abbrev c : List ℕ
  c = channel_of (site_of t i) p (place_of i m)

  chan_is : (decode t).net.chan i m p ≡ queue_in c
  unfolding decode
  chan_is = rw (lt-ltb m 4 h, ne_eqb i m d)

  channel_says : answered (decode t) (DELIVER i m p) ≡ judged (sight t closed m (queue_in c)) (DELIVER i m p)
  unfolding answered decode
  channel_says = ap (λ l. judged (sight t closed m l) (DELIVER i m p)) chan_is

  pub deliver_none : wait_in c ≡ 0 → answered (decode t) (DELIVER i m p) ≡ refuse 20
  deliver_none e = channel_says ∙ Protocol.deliver_none (sight t closed m (queue_in c)) i m p (queue_none c e)

  pub deliver_first : 0 < wait_in c →
      answered (decode t) (DELIVER i m p) ≡ cond (front_updates (first_in c ∷ []) && not (ltb (held_in (node_of (site_of t m) p)) 32)) (refuse 22) (Done and Receive i m p (first_in c) ∷ [])
  deliver_first w =
      let rest = tabulate (wait_in c - 1) (λ k. message_at c (ring_at (front_in c) (suc k))) in
      channel_says ∙ Protocol.deliver_first (sight t closed m (queue_in c)) i m p (first_in c) rest (queue_some c w) ∙ rw (store-room t m p)
