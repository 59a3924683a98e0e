-- `archive::setup` meets its contract: the tests by `setup_23`, `setup_11` and `setup_done`, the bytes by what `fill` and the two stores ensure.
use mathlib.Core.Path.{◌≡◌, sym}
use mathlib.Core.Bool.{Bool, ◌&&◌}
use Prim.Native.Nat.{ℕ}
use lib.Dec.{ltb, leb}
use borrow.Author.Rules.{rules}
use Rattle.codec.proofs.Tests.{fails, passes}
use Rattle.lawful.specs.LawfulValues.{setting_lawful}
use Rattle.lawful.proofs.Facts.{setting_tests}
use Rattle.archive.proofs.Calls.{setup_23, setup_11, setup_done}
use Rattle.archive.proofs.setup.Goals as goal

-- the code's two tests are the test of the setting
numbers_lawful : (m n : ℕ) {x y : Bool} → x ≡ (ltb 0 m && leb m 4) → y ≡ (ltb 0 n && leb n 4) → (x && y) ≡ setting_lawful (record { sites = m; partitions = n })
numbers_lawful m n p q = rw (p, q) (setting_tests m n)

pub returns-then-table-ne-TABLE : goal.returns-then-table-ne-TABLE
returns-then-table-ne-TABLE c = rw c.from.ensures (sym (setup_23 _ _ _ c.if-table-ne-TABLE.true))

pub returns-then-not-number_lawful : goal.returns-then-not-number_lawful
returns-then-not-number_lawful c =
    let no = fails (numbers_lawful _ _ c.number_lawful.ensures c.number_lawful-2.ensures) c.if-not-number_lawful.true in
    rw c.from-then-not-number_lawful.ensures (sym (setup_11 _ _ _ (search rules) no))

pub returns : goal.returns
returns c =
    let yes = passes (numbers_lawful _ _ c.number_lawful.ensures c.number_lawful-2.ensures) c.if-not-number_lawful.false in
    rw (c.store-2.ensures, c.store.ensures, c.fill.ensures.after (λ y h. h)) (sym (setup_done _ _ _ (search rules) yes))
