-- `steps::decide` meets its contract: the event's ranges are met, and its own function decides.
use native.Mathlib.Omega.{arith}
use mathlib.Core.Bool.{not}
use lib.Dec.{ltb, leb, eqb}
use Rattle.table.specs.Decode.{setting_in}
use mir.Facts.{T_not, and_yes, ltb_yes, leb_yes}
use Rattle.codec.proofs.Tabulate.{tab_length}
use Rattle.codec.proofs.Tests.{yes_eqb}
use Rattle.protocol.specs.Needs.{ranges}
use Rattle.lawful.proofs.Facts.{formed}
use Rattle.steps.proofs.Fields.{ranged}
use Rattle.steps.proofs.decide.Goals as goal

pub invariant_of-open_session : goal.invariant_of-open_session
unfolding ranges
invariant_of-open_session c =
    let k = ranged c.args.table.bytes.now c.args.event _ c.in-Open.is c.requires.1 in
    record { sixteen = ltb_yes k.1.0 }

pub invariant_of-close_session : goal.invariant_of-close_session
unfolding ranges
invariant_of-close_session c =
    let k = ranged c.args.table.bytes.now c.args.event _ c.in-Close.is c.requires.1 in
    record { sixteen = ltb_yes k.0 }

pub invariant_of-clock : goal.invariant_of-clock
unfolding ranges
invariant_of-clock c =
    let k = ranged c.args.table.bytes.now c.args.event _ c.in-Clock.is c.requires.1 in
    let F = formed c.args.table.bytes.now c.args.table.formed in
    let site = ltb_yes k.0 in
    let partition = ltb_yes k.1.0 in
    record { four_sites = omega arith; four_partitions = omega arith }

pub clock-requires : goal.clock-requires
unfolding ranges
clock-requires c =
    let k = ranged c.args.table.bytes.now c.args.event _ c.in-Clock.is c.requires.1 in
    (ltb_yes k.0, ltb_yes k.1.0)

pub invariant_of-get : goal.invariant_of-get
unfolding ranges
invariant_of-get c =
    let k = ranged c.args.table.bytes.now c.args.event _ c.in-Get.is c.requires.1 in
    record { sixteen = ltb_yes k.0 }

pub get-requires : goal.get-requires
unfolding ranges
get-requires c =
    let k = ranged c.args.table.bytes.now c.args.event _ c.in-Get.is c.requires.1 in
    (c.requires.0, ltb_yes k.1.0)

pub invariant_of-put : goal.invariant_of-put
unfolding ranges
invariant_of-put c =
    let k = ranged c.args.table.bytes.now c.args.event _ c.in-Put.is c.requires.1 in
    record { sixteen = ltb_yes k.0 }

pub invariant_of-begin : goal.invariant_of-begin
unfolding ranges
invariant_of-begin c =
    let k = ranged c.args.table.bytes.now c.args.event _ c.in-Begin.is c.requires.1 in
    record { sixteen = ltb_yes k.1.0 }

pub begin-requires : goal.begin-requires
unfolding ranges
begin-requires c =
    let k = ranged c.args.table.bytes.now c.args.event _ c.in-Begin.is c.requires.1 in
    let F = formed c.args.table.bytes.now c.args.table.formed in
    let p = ltb_yes k.0 in
    (omega arith, leb_yes (and_yes (ltb 0 c.in-Begin.count) (leb c.in-Begin.count 8) (simp tab_length at k.1.1.0)).1)

pub invariant_of-read : goal.invariant_of-read
unfolding ranges
invariant_of-read c =
    let k = ranged c.args.table.bytes.now c.args.event _ c.in-Read.is c.requires.1 in
    record { sixteen = ltb_yes k.0 }

pub invariant_of-end : goal.invariant_of-end
unfolding ranges
invariant_of-end c =
    let k = ranged c.args.table.bytes.now c.args.event _ c.in-End.is c.requires.1 in
    record { sixteen = ltb_yes k.0 }

pub invariant_of-beat : goal.invariant_of-beat
unfolding ranges
invariant_of-beat c =
    let k = ranged c.args.table.bytes.now c.args.event _ c.in-Beat.is c.requires.1 in
    let F = formed c.args.table.bytes.now c.args.table.formed in
    let site = ltb_yes k.0 in
    let partition = ltb_yes k.1.0 in
    record { four_sites = omega arith; four_partitions = omega arith }

pub beat-requires : goal.beat-requires
unfolding ranges
beat-requires c =
    let k = ranged c.args.table.bytes.now c.args.event _ c.in-Beat.is c.requires.1 in
    (ltb_yes k.0, ltb_yes k.1.0)

pub invariant_of-deliver : goal.invariant_of-deliver
unfolding ranges
invariant_of-deliver c =
    let k = ranged c.args.table.bytes.now c.args.event _ c.in-Deliver.is c.requires.1 in
    let F = formed c.args.table.bytes.now c.args.table.formed in
    let site = ltb_yes k.0 in
    let partition = ltb_yes k.1.0 in
    record { four_sites = omega arith; four_partitions = omega arith }

pub deliver-requires : goal.deliver-requires
unfolding ranges
deliver-requires c =
    let k = ranged c.args.table.bytes.now c.args.event _ c.in-Deliver.is c.requires.1 in
    let a = c.in-Deliver in
    let other = and_yes (ltb a.from (setting_in c.args.table.bytes.now).sites) (not (eqb a.from a.site)) k.1.1.0 in
    (ltb_yes other.0, ltb_yes k.0, λ z. T_not (eqb a.from a.site) (yes_eqb a.from a.site z) other.1, ltb_yes k.1.0)
