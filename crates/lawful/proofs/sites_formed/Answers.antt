-- `lawful::sites_formed` meets its contract: the first m sites passed.
use mathlib.Core.Path.{◌≡◌, sym, ◌∙◌}
use mathlib.Core.Bool.{◌&&◌}
use mathlib.Core.List.{List}
use Prim.Native.Nat.{ℕ}
use native.Mathlib.Omega.{arith}
use Rattle.codec.specs.Below.{all_below}
use Rattle.codec.proofs.Tests.{fails, passes}
use Rattle.codec.proofs.Below.{all_below-and, all_below_none, all_below_more, all_below_fails}
use Rattle.protocol.specs.Record.{Setting}
use Rattle.table.specs.Parts.{site_of, node_of, kept_of}
use Rattle.lawful.specs.WellFormed.{site_formed, kept_formed}
use Rattle.lawful.proofs.sites_formed.Goals as goal

-- the sites, and the kept places of their nodes
both : (t : List ℕ) (c : Setting) → all_below 4 (λ k. site_formed c k (site_of t k) && all_below 4 (λ p. kept_formed c (node_of (site_of t k) p) (kept_of t k p))) ≡
    (all_below 4 (λ m. site_formed c m (site_of t m)) && all_below 4 (λ m. all_below 4 (λ p. kept_formed c (node_of (site_of t m) p) (kept_of t m p))))
both t c = all_below-and 4 _ _

pub loop-m-init : goal.loop-m-init
loop-m-init c = all_below_none _

pub returns-then-not-site_formed : goal.returns-then-not-site_formed
returns-then-not-site_formed c =
    let no = fails c.site_formed.ensures c.if-not-site_formed.true in
    sym (all_below_fails 4 _ c.loop-m.m (omega arith) no) ∙ both _ _

pub loop-m-preserved : goal.loop-m-preserved
loop-m-preserved c =
    let yes = passes c.site_formed.ensures c.if-not-site_formed.false in
    all_below_more c.loop-m.m _ c.loop-m.invariant yes

pub returns : goal.returns
returns c =
    let e : c.loop-m.m ≡ 4 = omega arith in
    sym (rw e at c.loop-m.invariant) ∙ both _ _
