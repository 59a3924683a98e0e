-- `decision::lookup::session` meets its contract, by what the lent session says and what is lawful of it.
use Prim.Native.Nat.{◌≤◌}
use native.Mathlib.Omega.{arith}
use mathlib.Core.Path.{sym, ap, subst, ◌∙◌}
use Rattle.codec.specs.Le.{load}
use Rattle.parts.specs.Session.{session_in}
use Rattle.lawful.proofs.Facts.{formed}
use Rattle.decision.proofs.Formed.{session-marks}
use Rattle.table.specs.Parts.{session_of}
use Rattle.decision.proofs.Told.{count_told, here_told}
use borrow.Author.Rules.{rules}
use Rattle.decision.proofs.lookup.session.Goals as goal

pub load-requires : goal.load-requires
load-requires c =
    let a = c.args in
    (search rules, subst (λ b. load 1 b 3 ≤ 8) (sym c.session.ensures.0) (session-marks a.table.bytes.now c.args.table.formed a.s.number c.args.s.sixteen))

pub returns : goal.returns
returns c =
    let a = c.args in
    let t = a.table.bytes.now in
    let told = c.load.ensures ∙ ap session_in c.session.ensures.0 in
    let there = here_told c.load.result t c.args.table.formed a.s.number c.args.s.sixteen told in (
      told,
      subst (λ n. n ≤ 8) (sym (count_told c.load.result (session_of t a.s.number) told)) (session-marks t a.table.formed a.s.number a.s.sixteen),
      λ o. let here = there o in let F = formed t c.args.table.formed in omega (arith, F.sites),
      there,
    )
