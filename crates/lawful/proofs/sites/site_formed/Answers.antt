-- `lawful::sites::site_formed` meets its contract: the first p partitions passed.
use mathlib.Core.Path.{◌≡◌, sym, ◌∙◌}
use mathlib.Core.Bool.{◌&&◌, and-false}
use mathlib.Core.List.{List}
use Prim.Native.Nat.{ℕ}
use native.Mathlib.Omega.{arith}
use Rattle.codec.specs.Below.{all_below}
use Rattle.codec.proofs.Tests.{fails, passes}
use Rattle.codec.proofs.Below.{all_below_none, all_below_more, all_below_fails}
use Rattle.protocol.specs.Record.{Setting}
use Rattle.protocol.specs.Meaning.{setting_of}
use Rattle.table.specs.Parts.{site_of, node_of, channel_of, kept_of}
use Rattle.lawful.specs.WellFormed.{node_formed, channel_formed, site_formed, kept_formed}
use Rattle.lawful.proofs.Bests.{tested_together}
use Rattle.lawful.proofs.sites.site_formed.Invariants.{tested}
use Rattle.lawful.proofs.sites.site_formed.Goals as goal

-- the nodes with their channels, and the kept places of the nodes
both : (t : List ℕ) (c : Setting) (m : ℕ) (site : List ℕ) → site ≡ site_of t m →
    all_below 4 (tested t c m site) ≡ (site_formed c m (site_of t m) && all_below 4 (λ p. kept_formed c (node_of (site_of t m) p) (kept_of t m p)))
unfolding site_formed
both t c m site e =
    rw (← e)
    (tested_together 4 (λ k. node_formed c m k (node_of site k)) (λ k. kept_formed c (node_of site k) (kept_of t m k)) (λ k. all_below 3 (λ d. channel_formed c m k d (channel_of site k d))))

pub loop-p-init : goal.loop-p-init
loop-p-init c = all_below_none _

pub returns-then-not-node_formed : goal.returns-then-not-node_formed
returns-then-not-node_formed c =
    let a = c.args in
    let no = fails (rw (c.node_of.ensures.0, c.kept.ensures.0) at c.node_formed.ensures) c.if-not-node_formed.true in
    sym (all_below_fails 4 (tested a.t.now (setting_of a.setting) a.m c.site-site.result.now) c.loop-p.p (omega arith) (rw no)) ∙ both _ _ _ _ c.site-site.ensures.0

pub returns-then-not-channels_formed : goal.returns-then-not-channels_formed
returns-then-not-channels_formed c =
    let a = c.args in
    let no = fails c.channels_formed.ensures c.if-not-channels_formed.true in
    sym (all_below_fails 4 (tested a.t.now (setting_of a.setting) a.m c.site-site.result.now) c.loop-p.p (omega arith) (rw (no, and-false))) ∙ both _ _ _ _ c.site-site.ensures.0

pub loop-p-preserved : goal.loop-p-preserved
loop-p-preserved c =
    let yes_node = passes (rw (c.node_of.ensures.0, c.kept.ensures.0) at c.node_formed.ensures) c.if-not-node_formed.false in
    let yes_channels = passes c.channels_formed.ensures c.if-not-channels_formed.false in
    all_below_more c.loop-p.p _ c.loop-p.invariant (rw (yes_node, yes_channels))

pub returns : goal.returns
returns c =
    let e : c.loop-p.p ≡ 4 = omega arith in
    sym (rw e at c.loop-p.invariant) ∙ both _ _ _ _ c.site-site.ensures.0
