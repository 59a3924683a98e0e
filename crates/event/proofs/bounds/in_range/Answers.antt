-- `event::bounds::in_range` meets its contract, by what its two callees ensure.
use mir.Syntax.{w32}
use mir.Val.{SFits}
use mir.Facts.{to_z-of_z}
use borrow.Author.Rules.{rules}
use Rattle.event.specs.Ranges.{in_range}
use Rattle.event.proofs.bounds.in_range.Goals as goal

pub returns : goal.returns
unfolding in_range
returns c =
    let fits : SFits w32 c.args.x.level = search rules in
    rw (c.level_lawful.ensures, to_z-of_z fits, c.keys_lawful.ensures)
