-- `lawful::pages::keys_formed` meets its contract: the first i keys are in range and differ.
use mathlib.Core.Path.{◌≡◌, sym, ◌∙◌}
use mathlib.Core.Bool.{and-false}
use native.Mathlib.Omega.{arith}
use borrow.Author.Tests.{lt-ltb, le-ltb}
use Rattle.codec.proofs.Below.{all_below_none, all_below_more, all_below_fails}
use Rattle.lawful.proofs.KeyTests.{keys_all}
use Rattle.lawful.proofs.pages.keys_formed.Goals as goal

pub loop-i-init : goal.loop-i-init
loop-i-init c = all_below_none _

pub returns-then-k-ge64 : goal.returns-then-k-ge64
returns-then-k-ge64 c =
    let key = c.load-k in
    let no = le-ltb key.result 64 c.if-k-ge64.true in
    sym (keys_all _ _ ∙ all_below_fails _ _ c.loop-i.i (omega arith) (rw (← key.ensures, no)))

pub returns-then-holds_key : goal.returns-then-holds_key
returns-then-holds_key c =
    let key = c.load-k in
    let twice = rw (c.holds_key.ensures, key.ensures) at c.if-holds_key.true in
    sym (keys_all _ _ ∙ all_below_fails _ _ c.loop-i.i (omega arith) (rw twice (simp and-false)))

pub loop-i-preserved : goal.loop-i-preserved
loop-i-preserved c =
    let key = c.load-k in
    let low = lt-ltb key.result 64 c.if-k-ge64.false in
    let new = rw (c.holds_key.ensures, key.ensures) at c.if-holds_key.false in
    all_below_more c.loop-i.i _ c.loop-i.invariant (rw (new, ← key.ensures, low))

pub returns : goal.returns
returns c =
    let e : c.loop-i.i ≡ c.args.n = omega arith in
    sym (keys_all _ _ ∙ rw e at c.loop-i.invariant)
