use mathlib.Core.Path.{◌≡◌}
use Rattle.protocol.specs.Record.{Setting}
use Rattle.protocol.specs.Search.{newest_place}
use Rattle.record.specs.RecordBytes.{record_at}
use Rattle.parts.specs.Node.{slot_at}
use Rattle.search.specs.Found.{fits}
use Rattle.search.proofs.newest_place.Given as goal

abbrev pub invariant-loop-k : goal.invariant-loop-k
invariant-loop-k l = (c : Setting) → l.best ≡ newest_place c (fits l.w) (λ i. record_at l.n (slot_at i)) l.k
