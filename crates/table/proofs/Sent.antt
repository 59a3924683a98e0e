-- A message that goes into a site's channels, one after the other. In order: one more channel, as the code counts; the length, and the channels
-- that the message has not come to.
use Prim.Native.Nat.{ℕ, zero, suc, ◌+◌, ◌≤◌, ◌<◌}
use mathlib.Core.Path.{◌≡◌, refl, ◌∙◌}
use mathlib.Core.List.{List}
use native.Mathlib.Numerals.{add-one}
use native.Mathlib.Omega.{arith}
use borrow.Author.Tests.{eq-eqb, ne_eqb}
use lib.ListN.{length}
use Rattle.protocol.specs.Record.{Msg}
use Rattle.parts.specs.Channel.{pushed}
use Rattle.parts.proofs.Lengths.{pushed_keeps}
use Rattle.table.specs.Parts.{channel_of, on_channel}
use Rattle.table.specs.Put.{sent_to}
use Rattle.table.proofs.Parts.{length-on_channel, channel_on_channel}

pub sent_none : (m p : ℕ) (x : Msg) (site : List ℕ) → sent_to 0 m p x site ≡ site
unfolding sent_to
sent_none m p x site = refl

pub sent-step : (n m p : ℕ) (x : Msg) (site : List ℕ) → sent_to (n + 1) m p x site ≡ on_channel p n (pushed m x) (sent_to n m p x site)
sent-step n m p x site = rw (add-one n) (unfold sent_to in refl)

module _ (m p : ℕ) (x : Msg) (site : List ℕ) (l : length site ≡ 13056) (h : p < 4) where
  pub length-sent : (n : ℕ) → n ≤ 3 → length (sent_to n m p x site) ≡ 13056
  unfolding sent_to
  length-sent zero g = l
  length-sent (suc n) g =
      let k = length-sent n (omega arith) in
      length-on_channel (sent_to n m p x site) p n (pushed m x) k h (omega arith) (pushed_keeps m x) ∙ k

  pub channel_sent : (n e : ℕ) → n ≤ e → e < 3 → channel_of (sent_to n m p x site) p e ≡ channel_of site p e
  unfolding sent_to
  channel_sent zero e b g = refl
  channel_sent (suc n) e b g =
      channel_on_channel (sent_to n m p x site) p n (pushed m x) (length-sent n (omega arith)) h (omega arith) (pushed_keeps m x) p e
      ∙ rw (eq-eqb p p refl, ne_eqb e n (omega arith)) (channel_sent n e (omega arith) g)
