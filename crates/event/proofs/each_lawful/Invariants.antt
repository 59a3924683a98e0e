use mathlib.Core.Path.{◌≡◌}
use Rattle.codec.specs.Below.{all_below}
use Rattle.event.specs.Ranges.{field_lawful}
use Rattle.event.proofs.each_lawful.Given as goal

abbrev pub invariant-loop-f : goal.invariant-loop-f
invariant-loop-f l = l.all ≡ all_below l.f (field_lawful l.used l.zero l.within)
