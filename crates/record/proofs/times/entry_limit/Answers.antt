-- `record::times::entry_limit` meets its contract, on either side of its test.
use borrow.Author.Tests.{lt-ltb}
use Rattle.protocol.specs.Times.{top_of}
use Rattle.record.proofs.times.entry_limit.Goals as goal

pub returns-then-i-setting : goal.returns-then-i-setting
unfolding top_of
returns-then-i-setting c = rw (lt-ltb _ _ c.if-i-setting.true)
