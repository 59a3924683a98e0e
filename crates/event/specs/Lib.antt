-- What an event's bytes say, and which of them must be zero; refusal 11 as the code tests it, and the fields as the code holds them.
pub mod Fields
pub mod Event
-- ---- below the line: words of contracts inside and of proofs; nobody has to believe them
pub mod Meaning
pub mod Ranges
