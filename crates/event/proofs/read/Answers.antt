-- `event::read` meets its contract: the code says which event it is, or is none, and then the fields are tested.
use Prim.Native.Nat.{ℕ}
use mathlib.Core.Path.{◌≡◌, refl, sym, ◌∙◌}
use mathlib.Core.List.{List}
use Rattle.std.proofs.lemmas.Result.{err_from_is_err_and}
use Rattle.event.specs.declared.Fields.{Fields}
use Rattle.event.specs.Event.{code_lawful}
use Rattle.event.specs.Meaning.{event_from, known, fields_in, IsRefusal}
use Rattle.event.proofs.Meaning.{event_is, used_in_range_lem}
use Rattle.event.proofs.read.Goals as goal

code_known : (e : List ℕ) (x : Fields) → x ≡ fields_in e → code_lawful e ≡ known x
unfolding code_lawful fields_in
code_known e x q = rw q

pub returns-in_err-event-clause-err : goal.returns-in_err-event-clause-err
returns-in_err-event-clause-err c =
    let p = err_from_is_err_and c.from_residual.result c.from_residual.ensures.1 in
    let met = c.in_err-event.ensures in
    rw (p.1, p.2, met.1) (IsRefusal.unknown (code_known c.args.e.now _ c.load_fields.ensures ∙ met.0))

pub fields_lawful-requires : goal.fields_lawful-requires
fields_lawful-requires c = code_known c.args.e.now _ c.load_fields.ensures ∙ c.in_ok-event.ensures.0

pub returns-then-not-fields_lawful-clause-err : goal.returns-then-not-fields_lawful-clause-err
returns-then-not-fields_lawful-clause-err c =
    IsRefusal.unlawful (code_known c.args.e.now _ c.load_fields.ensures ∙ c.in_ok-event.ensures.0) (sym c.fields_lawful.ensures ∙ c.if-not-fields_lawful.true)

pub returns-clause-ok : goal.returns-clause-ok
unfolding event_from
returns-clause-ok c =
    let code = code_known c.args.e.now _ c.load_fields.ensures ∙ c.in_ok-event.ensures.0 in
    let fields = sym c.fields_lawful.ensures ∙ c.if-not-fields_lawful.false in
    (c.in_ok-event.ensures.1 ∙ sym (event_is _ c.args.e.now _ c.load_fields.ensures (code, fields) _ refl), code, fields)

pub returns-clause-used : goal.returns-clause-used
unfolding fields_in
returns-clause-used c f b u =
    let code = code_known c.args.e.now _ c.load_fields.ensures ∙ c.in_ok-event.ensures.0 in
    let fields = sym c.fields_lawful.ensures ∙ c.if-not-fields_lawful.false in
    used_in_range_lem _ c.args.e.now (fields_in c.args.e.now) refl (code, fields) _ refl f b u
