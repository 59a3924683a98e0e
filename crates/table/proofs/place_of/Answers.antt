-- `table::place_of` meets its contract, by the side that m is on.
use mathlib.Core.Path.{sym}
use native.Mathlib.Omega.{arith}
use borrow.Author.Tests.{lt-ltb, le-ltb}
use Rattle.table.specs.Parts.{place_of}
use Rattle.table.proofs.place_of.Goals as goal

pub returns-then-m-i : goal.returns-then-m-i
unfolding place_of
returns-then-m-i c = (sym (rw (lt-ltb c.args.m c.args.i (omega arith))), omega arith)

pub returns-else-m-i : goal.returns-else-m-i
unfolding place_of
returns-else-m-i c = (sym (rw (le-ltb c.args.m c.args.i (omega arith))), omega arith)
