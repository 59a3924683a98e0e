-- `decision::writes::has_room` meets its contract: `all` says it of the first d channels.
use mathlib.Core.Path.{◌≡◌, sym}
use Prim.Native.Nat.{◌-◌}
use native.Mathlib.Omega.{arith}
use Rattle.codec.specs.Le.{load}
use Rattle.codec.proofs.Below.{all_below_none, all_below-step}
use Rattle.lawful.proofs.Facts.{formed}
use Rattle.decision.proofs.writes.has_room.Goals as goal

pub overflow_sub-n : goal.overflow_sub-n
overflow_sub-n c = let F = formed c.args.table.bytes.now c.args.table.formed in omega (arith, c.load.ensures, F.site)

pub loop-d-init : goal.loop-d-init
loop-d-init c = sym (all_below_none _)

pub channel-requires : goal.channel-requires
channel-requires c =
    let F = formed c.args.table.bytes.now c.args.table.formed in
    (c.args.table.long, omega (arith, c.load.ensures, F.sites))

pub loop-d-preserved : goal.loop-d-preserved
loop-d-preserved c = rw (c.loop-d.invariant, c.waiting.ensures, c.channel.ensures.0) (sym (all_below-step c.loop-d.d _))

pub returns : goal.returns
returns c =
    let F = formed c.args.table.bytes.now c.args.table.formed in
    let e : c.loop-d.d ≡ load 1 c.args.table.bytes.now 0 - 1 = omega (arith, c.load.ensures, F.site) in
    rw e at c.loop-d.invariant
