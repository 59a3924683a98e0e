-- `u8::store` meets its contract: the low byte of a byte is the byte.
use native.Mathlib.Nat.{mod-eq_of_lt}
use Rattle.codec.specs.Le.{put}
use Rattle.codec.proofs.U8Number.store.Goals as goal

pub returns : goal.returns
unfolding put
returns c = rw (mod-eq_of_lt c.ranges.self.fits)
