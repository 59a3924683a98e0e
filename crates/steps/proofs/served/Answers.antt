-- `steps::served` meets its contract: the event is refused with 10 or 11, turned away by the decision, or what is decided is carried out.
use borrow.Author.Rules.{rules}
use mathlib.Core.Path.{◌≡◌, refl, sym, ap, subst, ◌∙◌}
use mathlib.Core.Bool.{◌&&◌}
use lib.ListN.{length}
use mir.Facts.{and_yes}
use Rattle.std.proofs.lemmas.Result.{err_from_is_err_and}
use Rattle.protocol.specs.Needs.{ranges}
use Rattle.event.specs.Event.{code_lawful, event_of, met}
use Rattle.event.specs.Fields.{unused_zero}
use Rattle.event.specs.Meaning.{IsRefusal}
use Rattle.table.specs.Decode.{setting_in, decode}
use Rattle.table.specs.Put.{put_changes}
use Rattle.table.proofs.Parts.{whole_long}
use Rattle.lawful.proofs.Steps.{Sound}
use Rattle.decision.specs.Answered.{answered}
use Rattle.steps.specs.Step.{gives}
use Rattle.steps.proofs.Stepped.{is_yes, yes_is, test_holds, refused_gives, decided_fits, decided_gives}
use Rattle.steps.proofs.served.Goals as goal

pub returns-in_err-event : goal.returns-in_err-event
returns-in_err-event c =
    let a = c.args in
    let p = err_from_is_err_and c.from_residual.result c.from_residual.ensures.1 in
    let w = c.in_err-event.field-0.0 in
    let met_here = subst (λ d. IsRefusal (code_lawful a.e.now) (unused_zero a.e.now && met (ranges d (event_of a.e.now))) w) c.setting.ensures (c.in_err-event.ensures.err) in
    rw (p.1, p.2) (sym (refused_gives a.t.now a.e.now w met_here))

pub decide-requires : goal.decide-requires
decide-requires c =
    let a = c.args in
    let e = a.e.now in
    let v = c.in_ok-event.ensures.ok in
    let f = test_holds a.t.now e _ c.setting.ensures v.2 in
    let m = and_yes (unused_zero e) (met (ranges (setting_in a.t.now) (event_of e))) (is_yes _ f) in
    (c.requires.0, rw v.0 (yes_is (met (ranges (setting_in a.t.now) (event_of e))) m.1))

pub returns-in_err-decided : goal.returns-in_err-decided
unfolding put_changes
returns-in_err-decided c =
    let a = c.args in
    let v = c.in_ok-event.ensures.ok in
    let p = err_from_is_err_and c.from_residual-in_err-decided.result c.from_residual-in_err-decided.ensures.1 in
    let w = c.in_err-decided.field-0.0 in
    let f = test_holds a.t.now a.e.now _ c.setting.ensures v.2 in
    let says = c.in_err-decided.ensures ∙ ap (answered (decode a.t.now)) v.0 in
    rw (p.1, p.2) (sym (decided_gives a.t.now a.e.now _ (is_yes _ v.1) (is_yes _ f) says))

pub carry_out-requires : goal.carry_out-requires
carry_out-requires c =
    let a = c.args in
    let e = a.e.now in
    let v = c.in_ok-event.ensures.ok in
    let f = test_holds a.t.now e _ c.setting.ensures v.2 in
    let says = c.in_ok-decided.ensures ∙ ap (answered (decode a.t.now)) v.0 in
    let sound : Sound (length a.t.now) a.t.now = record { size = refl; whole = c.requires.0; bytes = search rules; formed = c.requires.1 } in
    (whole_long a.t.now c.requires.0, decided_fits a.t.now e _ (is_yes _ v.1) (is_yes _ f) says _ sound)

pub returns : goal.returns
returns c =
    let a = c.args in
    let v = c.in_ok-event.ensures.ok in
    let f = test_holds a.t.now a.e.now _ c.setting.ensures v.2 in
    let d = c.in_ok-decided.decided in
    let says = c.in_ok-decided.ensures ∙ ap (answered (decode a.t.now)) v.0 in
    ap (gives d.answer) c.carry_out.ensures ∙ sym (decided_gives a.t.now a.e.now _ (is_yes _ v.1) (is_yes _ f) says)
