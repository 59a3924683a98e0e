use mathlib.Core.Path.{◌≡◌}
use mathlib.Core.Bool.{Bool, true, ◌&&◌}
use mathlib.Core.List.{List}
use Prim.Native.Nat.{ℕ}
use Rattle.codec.specs.Below.{all_below}
use Rattle.protocol.specs.Record.{Setting}
use Rattle.protocol.specs.Meaning.{setting_of}
use Rattle.table.specs.Parts.{node_of, channel_of, kept_of}
use Rattle.lawful.specs.WellFormed.{node_formed, channel_formed, kept_formed}
use Rattle.lawful.proofs.sites.site_formed.Given as goal

-- what is tested of partition p of site m
abbrev pub tested : (t : List ℕ) (c : Setting) (m : ℕ) (site : List ℕ) (p : ℕ) → Bool
tested t c m site p = node_formed c m p (node_of site p) && kept_formed c (node_of site p) (kept_of t m p) && all_below 3 (λ d. channel_formed c m p d (channel_of site p d))

abbrev pub invariant-loop-p : goal.invariant-loop-p
invariant-loop-p l = all_below l.p (tested l.t (setting_of l.setting) l.m l.site) ≡ true
