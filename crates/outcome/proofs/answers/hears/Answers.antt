-- `outcome::answers::hears` meets its contract: the site that is short is the lowest, of all or of those that are not spared.
use mathlib.Core.Path.{sym, ap, ◌∙◌}
use Rattle.std.proofs.lemmas.Option.{MatchOption-at_some}
use Rattle.vector.specs.Entries.{entry}
use Rattle.vector.specs.Meaning.{as_vec}
use Rattle.protocol.specs.declared.reasons.Reason.{Reason}
use Rattle.outcome.proofs.answers.hears.Goals as goal
use Rattle.outcome.proofs.answers.hears.Goals.{in-None, in-Some}

pub returns-in-Some-short-clause-err : goal.returns-in-Some-short-clause-err
unfolding entry
returns-in-Some-short-clause-err c =
    let site = c.in-Some-short.site in
    elim c.match-spared.branch [
      | in-None w ↦
          let k = MatchOption-at_some _ _ site (sym w.short-is ∙ c.in-Some-short.is) w.first_short-short.ensures.known in
          rw w.in-None.is (k.0, ap (λ i. Reason.Wait i (as_vec c.args.needed i)) k.1)
      | in-Some w ↦
          let k = MatchOption-at_some _ _ site (sym w.short-is ∙ c.in-Some-short.is) w.first_short_but-short.ensures.known in
          rw w.in-Some.is (k.0, ap (λ i. Reason.Wait i (as_vec c.args.needed i)) k.1)
    ]
