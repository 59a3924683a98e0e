-- `outcome::answers::stored` meets its contract: the message carries the old vector, and the session has the new one.
use mir.ValLaws.{to_z-of_z}
use mir.Syntax.{w32}
use Rattle.protocol.specs.Serve.{written}
use borrow.Author.Rules.{rules}
use Rattle.outcome.proofs.answers.stored.Goals as goal

pub returns : goal.returns
unfolding written
returns c =
    rw (c.with_vector.ensures, c.with_entry-vec.ensures, to_z-of_z w32 c.args.level (search rules))
