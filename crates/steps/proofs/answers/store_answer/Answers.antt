-- `steps::answers::store_answer` meets its contract: the six stores one after the other.
use native.Mathlib.Nat.{add-zero}
use mathlib.Core.Path.{◌∙◌}
use mir.Syntax.{w32}
use mir.Val.{SFits}
use mir.Facts.{to_z-of_z}
use Rattle.steps.specs.Run.{put_answer}
use borrow.Author.Rules.{rules}
use Rattle.steps.proofs.answers.store_answer.Goals as goal

pub returns : goal.returns
unfolding put_answer
returns c =
    let fits : SFits w32 c.from-v.result.level = search rules in
    c.store-5.ensures
    ∙ rw (add-zero, c.store_level.ensures, to_z-of_z fits, c.store-4.ensures, c.store-3.ensures, c.store-2.ensures, c.store.ensures, c.from-v.ensures)
