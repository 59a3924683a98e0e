-- `record::times::none_above` meets its contract: each entry is compared with x.
use mathlib.Core.Path.{◌∙◌}
use borrow.Author.Rules.{rules}
use Prim.Native.Nat.{◌+◌, ◌*◌}
use lib.Dec.{leb}
use Rattle.codec.specs.Le.{load}
use Rattle.codec.proofs.Below.{all_below_ext}
use Rattle.vector.proofs.Entries.{load_vec-below}
use Rattle.codec.proofs.InRange.{all_in_range}
use Rattle.record.proofs.times.none_above.Goals as goal

pub returns : goal.returns
returns c =
    let a = c.args in
    all_in_range 4 (λ i. leb (load 8 a.b.now (a.at + 8 * i)) a.x) c.all.ensures.ran (λ i b q k. search rules)
    ∙ all_below_ext 4 _ _ (λ i l. rw (load_vec-below _ _ i l))
