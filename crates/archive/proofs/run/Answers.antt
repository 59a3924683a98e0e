-- `archive::run` meets its contract: a table that is refused turns every piece away, and any other is stepped on as well formed.
use mathlib.Core.Path.{◌≡◌, sym, ap, ◌∙◌}
use mathlib.Core.List.{List}
use Prim.Native.Nat.{ℕ, ◌+◌, ◌/◌, min}
use lib.ListN.{length}
use Rattle.lawful.proofs.Steps.{Sound}
use Rattle.table.specs.Parts.{table_length}
use Rattle.steps.specs.Run.{Ran, run_by}
use Rattle.steps.proofs.Stepped.{is_yes}
use Rattle.archive.specs.Call.{step_call}
use Rattle.archive.specs.Run.{pieces_of, run_call}
use Rattle.archive.proofs.Calls.{run_no_table, run_ill, run_formed}
use borrow.Author.Rules.{rules}
use Rattle.archive.proofs.run.Goals as goal

-- n is the number of pieces, and n steps were made
counted : (t es b : List ℕ) (n : ℕ) {r : Ran} → n ≡ min ((length es + 31) / 32) (length b / 16) → r ≡ run_by step_call n t es b → (n ≡ pieces_of es b) × (r ≡ run_call t es b)
unfolding pieces_of run_call
counted t es b n e steps = (e, steps ∙ ap (λ k. run_by step_call k t es b) e)

pub returns-then-table-ne-TABLE : goal.returns-then-table-ne-TABLE
returns-then-table-ne-TABLE c =
    let away = c.refuse_all.ensures c.args.table.now in
    counted _ _ _ _ c.pieces_for-n.ensures (away ∙ sym (run_no_table _ _ _ _ c.if-table-ne-TABLE.true))

pub returns-then-not-well_formed : goal.returns-then-not-well_formed
returns-then-not-well_formed c =
    let away = c.refuse_all-then-not-well_formed.ensures c.args.table.now in
    counted _ _ _ _ c.pieces_for-n.ensures (away ∙ sym (run_ill _ _ _ _ (search rules) (sym c.well_formed-2.ensures ∙ c.if-not-well_formed.true)))

pub returns : goal.returns
returns c =
    let S : Sound table_length c.args.table.now =
    record { size = search rules; whole = search rules; bytes = search rules; formed = is_yes _ (sym c.well_formed-2.ensures ∙ c.if-not-well_formed.false) } in
    counted _ _ _ _ c.pieces_for-n.ensures (c.run.ensures ∙ sym (run_formed _ _ _ _ S))
