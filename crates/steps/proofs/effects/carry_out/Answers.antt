-- `steps::effects::carry_out` meets its contract, effect by effect.
use mathlib.Core.Path.{sym, subst}
use Rattle.table.specs.Put.{put_changes}
use Rattle.table.specs.Fits.{FitsAll}
use Rattle.outcome.specs.Decided.{changes_of}
use Rattle.outcome.specs.declared.Effect.{Effect}
use native.Mathlib.Omega.{arith}
use Rattle.steps.proofs.Carried.{marks_few}
use Rattle.steps.proofs.effects.carry_out.Goals as goal

pub set_session-requires : goal.set_session-requires
set_session-requires c =
    let f = subst (λ (w : Effect). FitsAll (changes_of w) c.args.t.now) c.in-Keep.is c.requires.1 in
    (c.requires.0, marks_few c.in-Keep.kept f.0.1)

pub set_session-requires-in-Put : goal.set_session-requires-in-Put
set_session-requires-in-Put c =
    let f = (subst (λ (w : Effect). FitsAll (changes_of w) c.args.t.now) c.in-Put.is c.requires.1).1.0 in
    (omega arith, marks_few c.in-Put.kept f.1)

pub publish-requires : goal.publish-requires
publish-requires c = (subst (λ (w : Effect). FitsAll (changes_of w) c.args.t.now) c.in-Beat.is c.requires.1).0

pub publish-requires-in-Put : goal.publish-requires-in-Put
publish-requires-in-Put c = (subst (λ (w : Effect). FitsAll (changes_of w) c.args.t.now) c.in-Put.is c.requires.1).0

pub receive-requires : goal.receive-requires
receive-requires c = (subst (λ (w : Effect). FitsAll (changes_of w) c.args.t.now) c.in-Deliver.is c.requires.1).0

pub returns-in-Nothing : goal.returns-in-Nothing
unfolding put_changes
returns-in-Nothing c = rw c.in-Nothing.is

pub returns-in-Keep : goal.returns-in-Keep
unfolding put_changes
returns-in-Keep c = rw c.in-Keep.is c.set_session.ensures

pub returns-in-Clock : goal.returns-in-Clock
unfolding put_changes
returns-in-Clock c = rw c.in-Clock.is c.set_clock.ensures

pub returns-in-Beat : goal.returns-in-Beat
unfolding put_changes
returns-in-Beat c = rw c.in-Beat.is c.publish.ensures

pub returns-in-Put : goal.returns-in-Put
unfolding put_changes
returns-in-Put c = rw (c.in-Put.is, sym c.publish-in-Put.ensures) c.set_session-in-Put.ensures

pub returns-in-Deliver : goal.returns-in-Deliver
unfolding put_changes
returns-in-Deliver c = rw c.in-Deliver.is c.receive.ensures
