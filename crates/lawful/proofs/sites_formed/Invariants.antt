use mathlib.Core.Path.{◌≡◌}
use mathlib.Core.Bool.{true, ◌&&◌}
use Rattle.codec.specs.Below.{all_below}
use Rattle.protocol.specs.Meaning.{setting_of}
use Rattle.table.specs.Parts.{site_of, node_of, kept_of}
use Rattle.lawful.specs.WellFormed.{site_formed, kept_formed}
use Rattle.lawful.proofs.sites_formed.Given as goal

abbrev pub invariant-loop-m : goal.invariant-loop-m
invariant-loop-m l =
    let c = setting_of l.setting in
    all_below l.m (λ k. site_formed c k (site_of l.t k) && all_below 4 (λ p. kept_formed c (node_of (site_of l.t k) p) (kept_of l.t k p))) ≡ true
