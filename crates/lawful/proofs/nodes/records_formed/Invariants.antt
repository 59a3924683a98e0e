use mathlib.Core.Path.{◌≡◌}
use mathlib.Core.Bool.{true}
use lib.ListN.{length}
use Rattle.codec.specs.Below.{all_below}
use Rattle.protocol.specs.Meaning.{setting_of}
use Rattle.record.specs.RecordFormed.{record_formed}
use Rattle.parts.specs.Node.{slot_at}
use Rattle.lawful.proofs.Bests.{Bests}
use Rattle.lawful.proofs.nodes.records_formed.Given as goal

abbrev pub invariant-loop-k : goal.invariant-loop-k
invariant-loop-k l =
    (all_below l.k (λ j. record_formed (setting_of l.setting) l.p l.n (slot_at j)) ≡ true) × (length l.best ≡ 64) × Bests l.n l.k l.best
