-- When a table is well formed (R20 to R29): of values, and of a table's bytes.
pub mod LawfulValues
pub mod WellFormed
