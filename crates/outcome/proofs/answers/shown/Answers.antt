-- `outcome::answers::shown` meets its contract: nothing was found, or its fields are shown.
use mir.ValLaws.{to_z-of_z}
use mir.Syntax.{w32}
use borrow.Author.Rules.{rules}
use Rattle.protocol.specs.Event.{shown}
use Rattle.outcome.proofs.answers.shown.Goals as goal

pub returns-in-None : goal.returns-in-None
unfolding shown
returns-in-None c = rw c.in-None.is

pub returns-in-Some : goal.returns-in-Some
unfolding shown
returns-in-Some c = rw (c.in-Some.is, to_z-of_z w32 c.in-Some.record.numbers.level (record { sfits = search rules }))
