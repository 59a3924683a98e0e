-- `codec::load_level` meets its contract: the four bytes' number, cast, is its level.
use mathlib.Core.Path.{◌∙◌, ap}
use mir.Syntax.{w32}
use mir.ValLaws.{to_z-of_z}
use Rattle.codec.specs.Level.{level_from}
use Rattle.codec.proofs.Level.{signed_is}
use Rattle.codec.proofs.load_level.Goals as goal

pub returns : goal.returns
returns c =
    let cast = c.cast_signed in
    to_z-of_z w32 cast.result (record { sfits = cast.type_inv }) ∙ cast.ensures ∙ signed_is _ ∙ ap level_from c.load.ensures
