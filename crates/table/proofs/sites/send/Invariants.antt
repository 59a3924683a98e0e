use mathlib.Core.Path.{◌≡◌}
use Rattle.record.specs.Meaning.{as_message}
use Rattle.table.specs.Put.{sent_to}
use Rattle.table.proofs.sites.send.Given as goal

abbrev pub invariant-loop-d : goal.invariant-loop-d
invariant-loop-d l = l.site ≡ sent_to l.d l.m l.p (as_message l.x) l.initial.site
