-- `codec::store_level` meets its contract: the level, cast, is its four bytes' number.
use mathlib.Core.Path.{refl, ◌∙◌, ap}
use mir.Syntax.{w32}
use mir.ValLaws.{to_z-of_z}
use Rattle.codec.specs.Level.{bits_of}
use Rattle.codec.proofs.Le.{put-at}
use Rattle.codec.proofs.Level.{unsigned_is}
use Rattle.codec.proofs.store_level.Goals as goal

pub returns : goal.returns
returns c =
    let bits = c.cast_unsigned.ensures ∙ unsigned_is _ ∙ ap bits_of (to_z-of_z w32 c.args.x c.ranges.x) in
    c.store.ensures ∙ put-at _ refl refl bits
