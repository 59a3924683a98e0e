-- `codec::load_eight` meets its contract: each of the eight bytes is loaded.
use borrow.Author.Rules.{rules}
use Rattle.codec.proofs.Below.{none, first}
use Rattle.codec.proofs.Tabulate.{tab_is}
use Rattle.codec.proofs.load_eight.Goals as goal

pub returns : goal.returns
returns c =
    tab_is 8 _ c.from_fn.result 0 c.from_fn.ensures.items.long
    (first _ 7 (search rules) (first _ 6 (search rules) (first _ 5 (search rules) (first _ 4 (search rules)
    (first _ 3 (search rules) (first _ 2 (search rules) (first _ 1 (search rules) (first _ 0 (search rules) (none _)))))))))
