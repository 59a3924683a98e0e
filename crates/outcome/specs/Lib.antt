-- What a read needs to hear; a decision as the protocol's outcome.
-- ---- below the line: words of contracts inside and of proofs; nobody has to believe them
pub mod Hears
pub mod Decided
