-- `parts::Marks::with_read` meets its contract: the first i places are marked.
use mathlib.Core.Path.{refl, sym, ◌∙◌}
use mathlib.Core.Bool.{false, ◌||◌}
use native.Mathlib.Omega.{arith}
use lib.Dec.{eqb}
use lib.ListN.{get_or, length-set}
use Rattle.codec.proofs.Tabulate.{tab_ext, filled_more}
use Rattle.parts.specs.Pages.{mark_of}
use Rattle.parts.proofs.Backward.{marks-read}
use Rattle.parts.proofs.Marks.with_read.Goals as goal

pub loop-i-preserved : goal.loop-i-preserved
loop-i-preserved c =
    (simp length-set (omega arith), filled_more _ c.loop-i.read c.loop-i.i _ false (omega arith) c.loop-i.invariant.1 refl)

pub returns : goal.returns
returns c =
    let x = c.args.self in
    tab_ext x.page.count (mark_of (record { page = x.page; read = c.loop-i.read })) (λ i. record { key = get_or x.page.keys i 0; read = get_or x.read i false || eqb (get_or x.page.keys i 0) c.args.k }) (λ i b. rw (c.loop-i.invariant.1 i (omega arith)))
    ∙ sym (marks-read c.args.k x.page.count (mark_of x))
