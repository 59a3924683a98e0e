-- A channel's bytes stay well formed: when a lawful message goes behind the last, and when the front leaves.
use Prim.Native.Nat.{ℕ, ◌+◌, ◌-◌, ◌≤◌, ◌<◌}
use native.Mathlib.Omega.{arith}
use mathlib.Core.Path.{◌≡◌}
use mathlib.Core.List.{List}
use lib.Dec.{T}
use lib.ListN.{length}
use borrow.Author.Count.{below_more}
use borrow.Author.Tests.{lt-ltb}
use Rattle.codec.specs.Le.{Bytes}
use Rattle.codec.proofs.Le.{load-put-other}
use Rattle.protocol.specs.Record.{Setting, Msg}
use Rattle.record.specs.RecordBytes.{put_message}
use Rattle.record.specs.RecordFormed.{message_formed}
use Rattle.record.proofs.Ranges.{LawfulMsg}
use Rattle.record.proofs.RecordFormed.{message_formed_ext, message_formed_put}
use Rattle.parts.specs.Channel.{ring_at, front_in, wait_in, pushed, popped}
use Rattle.parts.proofs.ChannelBytes.{load-pushed, front-pushed, wait_pushed, load-popped, front-popped, wait_popped}
use Rattle.lawful.proofs.Facts.{ChannelFacts}

module _ (c : Setting) (i p d : ℕ) (b : List ℕ) (l : length b ≡ 464) where
  -- ---- one more behind the last

  module _ (x : Msg) (room : wait_in b < 8) where
    abbrev last : ℕ
    last = ring_at (front_in b) (wait_in b)

    abbrev u : List ℕ
    u = put_message b last i x

    pub pushed-kept : c.sites ≤ 4 → i < c.sites → p < c.partitions → d < c.sites - 1 → LawfulMsg c i p x → ChannelFacts c i p d b → ChannelFacts c i p d (pushed i x b)
    pushed-kept few site part way ok F = record {
      wait = rw (lt-ltb i c.sites site, lt-ltb p c.partitions part, lt-ltb d (c.sites - 1) way) (omega (arith, wait_pushed i x b l room));
      ring = λ k g. rw (front-pushed i x b l room) (all k (omega (arith, wait_pushed i x b l room)));
    }
      where
        all : (k : ℕ) → k < wait_in b + 1 → T (message_formed c i p (pushed i x b) (ring_at (front_in b) k))
        all =
            below_more (λ k. T (message_formed c i p (pushed i x b) (ring_at (front_in b) k))) (wait_in b)
            (λ k g.
            rw (message_formed_ext c i p (pushed i x b) b (ring_at (front_in b) k) (λ w j a e. load-pushed i x b l room w j (λ n f h q r. omega arith) (λ n f h q r. omega arith)))
            (F.ring k g))
            (rw (message_formed_ext c i p (pushed i x b) u last (λ w j a e. unfold pushed in load-put-other w 1 u 1 (wait_in b + 1) j (λ n f h q r. omega arith)))
            (message_formed_put c few i p (omega arith) b last (omega arith) x ok))

  -- ---- the front leaves

  module _ (bytes : Bytes b) where
    pub popped-kept : ChannelFacts c i p d b → ChannelFacts c i p d (popped b)
    popped-kept F = record {
      wait = omega (arith, wait_popped b l bytes, F.wait);
      ring = λ k g.
          let e : ring_at (front_in (popped b)) k ≡ ring_at (front_in b) (k + 1) = omega (arith, front-popped b l bytes) in
          rw (message_formed_ext c i p (popped b) b (ring_at (front_in (popped b)) k) (λ w j a f. load-popped b l bytes w j (omega arith)), e) (F.ring (k + 1) (omega (arith, wait_popped b l bytes)));
    }
