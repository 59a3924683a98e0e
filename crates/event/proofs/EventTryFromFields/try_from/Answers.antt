-- `event::Event` is made of fields as their code says: at a code that is known, what the fields say computes.
use mathlib.Core.Path.{refl}
use mir.Syntax.{w32}
use mir.Val.{SFits}
use mir.Facts.{to_z-of_z}
use borrow.Author.Rules.{rules}
use Rattle.event.specs.Meaning.{keys_from, event_from}
use Rattle.event.proofs.EventTryFromFields.try_from.Goals as goal

pub returns-in-1 : goal.returns-in-1
unfolding event_from
returns-in-1 c = rw c.in-1.is (refl, refl)

pub returns-in-2 : goal.returns-in-2
unfolding event_from
returns-in-2 c = rw c.in-2.is (refl, refl)

pub returns-in-3 : goal.returns-in-3
unfolding event_from
returns-in-3 c = rw c.in-3.is (refl, refl)

pub returns-in-4 : goal.returns-in-4
unfolding event_from
returns-in-4 c = rw c.in-4.is (refl, refl)

pub returns-in-5 : goal.returns-in-5
unfolding event_from
returns-in-5 c =
    let fits : SFits w32 c.args.x.level = search rules in
    rw (to_z-of_z fits, c.in-5.is) (refl, refl)

pub returns-in-6 : goal.returns-in-6
unfolding event_from keys_from
returns-in-6 c = rw c.in-6.is (refl, refl)

pub returns-in-7 : goal.returns-in-7
unfolding event_from
returns-in-7 c = rw c.in-7.is (refl, refl)

pub returns-in-8 : goal.returns-in-8
unfolding event_from
returns-in-8 c = rw c.in-8.is (refl, refl)

pub returns-in-9 : goal.returns-in-9
unfolding event_from
returns-in-9 c = rw c.in-9.is (refl, refl)

pub returns-in-10 : goal.returns-in-10
unfolding event_from
returns-in-10 c = rw c.in-10.is (refl, refl)
