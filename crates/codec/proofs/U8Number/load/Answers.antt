-- `u8::load` meets its contract: a number of one byte is that byte.
use borrow.Author.Rules.{rules}
use Rattle.codec.specs.Le.{load}
use Rattle.codec.proofs.U8Number.load.Goals as goal

pub returns : goal.returns
unfolding load
returns c = search rules
