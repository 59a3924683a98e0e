use mathlib.Core.Path.{◌≡◌}
use lib.Dec.{ltb}
use Rattle.codec.specs.Below.{all_below}
use Rattle.parts.specs.Channel.{wait_in}
use Rattle.table.specs.Parts.{site_of, channel_of}
use Rattle.decision.proofs.writes.has_room.Given as goal

abbrev pub invariant-loop-d : goal.invariant-loop-d
invariant-loop-d l = l.all ≡ all_below l.d (λ k. ltb (wait_in (channel_of (site_of l.table.bytes.now l.node.site) l.node.partition k)) 8)
