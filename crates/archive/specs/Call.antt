-- One call of `setup` or `step`, for any bytes: its answer and the table's bytes afterwards, refusals in the order of R60.
use Rattle.std.specs.Prelude.{ℕ, ◌&&◌, List, eqb, length}
use Rattle.protocol.specs.Record.{Setting}
use Rattle.protocol.specs.declared.Answer.TheVariants.{Done}
use Rattle.table.specs.Parts.{table_length}
use Rattle.table.specs.Put.{fresh}
use Rattle.lawful.specs.LawfulValues.{setting_lawful}
use Rattle.lawful.specs.WellFormed.{well_formed}
use Rattle.steps.specs.Step.{Called, gives, need, step_on}

unfoldable pub step_call : (table event : List ℕ) → Called
step_call t e = need (eqb (length t) table_length && eqb (length e) 32) 23 t (need (well_formed t) 24 t (step_on t e))

-- R61
unfoldable pub setup_call : List ℕ → (sites partitions : ℕ) → Called
setup_call t sites partitions =
    let c : Setting = record { sites = sites; partitions = partitions } in
    need (eqb (length t) table_length) 23 t (need (setting_lawful c) 11 t (gives Done (fresh c)))
