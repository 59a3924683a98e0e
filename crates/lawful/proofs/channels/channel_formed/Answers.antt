-- `lawful::channels::channel_formed` meets its contract, with no message, too many or some.
use mathlib.Core.Path.{◌≡◌, sym, ◌∙◌}
use mathlib.Core.Bool.{true}
use Prim.Native.Nat.{ℕ, ◌+◌, ◌-◌}
use native.Mathlib.Decide.{dec_lt}
use native.Mathlib.Omega.{arith}
use borrow.Author.Tests.{lt-ltb, le-ltb, lt-leb, le-leb}
use lib.Dec.{ltb, leb}
use Rattle.codec.specs.Below.{all_below}
use Rattle.parts.specs.Channel.{front_in}
use Rattle.lawful.specs.WellFormed.{channel_formed}
use Rattle.lawful.proofs.channels.channel_formed.Goals as goal

-- the place d among the other sites is there
place_there : (d sites : ℕ) → ltb (d + 1) sites ≡ ltb d (sites - 1)
place_there d sites = elim (dec_lt (d + 1) sites) [
  | yes l ↦ lt-ltb (d + 1) sites l ∙ sym (lt-ltb d (sites - 1) (omega arith))
  | no l ↦ le-ltb (d + 1) sites (omega arith) ∙ sym (le-ltb d (sites - 1) (omega arith))
]

none_fits : (n : ℕ) → leb 0 n ≡ true
none_fits n = le-leb 0 n (omega arith)

pub returns-then-wait-eq0 : goal.returns-then-wait-eq0
unfolding channel_formed all_below
returns-then-wait-eq0 c =
    let none = sym c.waiting-wait.ensures ∙ c.if-wait-eq0.true in
    rw (none, none_fits)

pub returns-then-most-wait : goal.returns-then-most-wait
unfolding channel_formed
returns-then-most-wait c =
    let most = c.most.ensures.0 in
    let many = rw (most, place_there, c.waiting-wait.ensures) at c.if-most-wait.true in
    rw (lt-leb _ _ many)

pub returns : goal.returns
unfolding channel_formed front_in
returns c =
    let wait = c.waiting-wait.ensures in
    let few = rw (c.most.ensures.0, place_there, wait) at c.if-most-wait.false in
    rw (le-leb _ _ few, c.messages_formed.ensures, c.load-front.ensures, wait)
