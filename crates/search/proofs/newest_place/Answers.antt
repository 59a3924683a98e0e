-- `search::newest_place` meets its contract: `best` is the place for the first k records.
use mathlib.Core.Path.{◌≡◌, sym, ◌∙◌}
use mathlib.Core.Bool.{Bool}
use Prim.Native.Nat.{ℕ, ◌≤◌}
use native.Mathlib.Omega.{arith}
use borrow.Author.Rules.{rules}
use Rattle.protocol.specs.Record.{Setting, Rec}
use Rattle.protocol.specs.Search.{newest_place}
use Rattle.protocol.proofs.Places.{place_none, place-step, place-at_most}
use Rattle.search.proofs.newest_place.Goals as goal

best_at_most : (b k : ℕ) (fit : Rec → Bool) (f : ℕ → Rec) → ((c : Setting) → b ≡ newest_place c fit f k) → b ≤ k
best_at_most b k fit f h = let any : Setting = record { sites = 0; partitions = 0 } in rw (h any) (place-at_most any fit f k)

pub loop-k-init : goal.loop-k-init
loop-k-init c d = sym (place_none d _ _)

pub better-best-requires : goal.better-best-requires
better-best-requires c = (search rules, omega arith, best_at_most _ c.loop-k.k _ _ c.loop-k.invariant)

pub loop-k-preserved : goal.loop-k-preserved
loop-k-preserved c d = c.better-best.ensures d ∙ rw (c.loop-k.invariant d) (sym (place-step d _ _ c.loop-k.k))

pub returns : goal.returns
returns c =
    let e : c.loop-k.k ≡ c.args.held = omega arith in
    let place = rw e at c.loop-k.invariant in
    (best_at_most _ c.args.held _ _ place, place)
