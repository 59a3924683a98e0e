-- `lawful::pages::page_keys` meets its contract, whether the page is open or not.
use mathlib.Core.Path.{◌≡◌, sym, ◌∙◌}
use mathlib.Core.Bool.{true, false}
use Prim.Native.Nat.{ℕ}
use native.Mathlib.Omega.{arith}
use borrow.Author.Tests.{lt-ltb, le-ltb}
use lib.Dec.{ltb}
use Rattle.codec.proofs.Tests.{every_fails, every-joined}
use Rattle.lawful.proofs.pages.page_keys.Goals as goal

no_key : (n : ℕ) → n ≡ 0 → ltb 0 n ≡ false
no_key n e = le-ltb 0 n (omega arith)

some_key : (n : ℕ) → (n ≡ 0 → ⊥) → ltb 0 n ≡ true
some_key n e = lt-ltb 0 n (omega arith)

pub returns-then-count-eq0 : goal.returns-then-count-eq0
returns-then-count-eq0 c =
    let is_open = sym c.load.ensures ∙ c.if-load-ne1.false in
    rw is_open (sym (every_fails _ 0 (no_key _ c.if-count-eq0.true)))

pub returns : goal.returns
returns c =
    let is_open = sym c.load.ensures ∙ c.if-load-ne1.false in
    rw (is_open, some_key _ c.if-count-eq0.false) (c.keys_formed.ensures ∙ sym (every-joined _))
