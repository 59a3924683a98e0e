-- `lawful::well_formed` meets its contract, whichever test fails first.
use mathlib.Core.Path.{sym, ◌∙◌}
use Rattle.codec.proofs.Tests.{fails, passes, every_fails, every-joined}
use Rattle.lawful.specs.WellFormed.{well_formed}
use Rattle.lawful.proofs.well_formed.Goals as goal

pub returns-then-not-setting_lawful : goal.returns-then-not-setting_lawful
unfolding well_formed
returns-then-not-setting_lawful c =
    let no = fails c.setting_lawful.ensures c.if-not-setting_lawful.true in
    rw (← c.setting-setting.ensures) (sym (every_fails _ 0 no))

pub returns-then-not-sessions_formed : goal.returns-then-not-sessions_formed
unfolding well_formed
returns-then-not-sessions_formed c =
    let no = fails c.sessions_formed.ensures c.if-not-sessions_formed.true in
    rw (← c.setting-setting.ensures) (sym (every_fails _ 1 no))

pub returns : goal.returns
unfolding well_formed
returns c =
    let yes = passes c.setting_lawful.ensures c.if-not-setting_lawful.false in
    let same = c.setting-setting.ensures in
    let yes_sessions = passes c.sessions_formed.ensures c.if-not-sessions_formed.false in
    rw (← same, c.sites_formed.ensures) (sym (every-joined _ ∙ rw (yes, yes_sessions)))
