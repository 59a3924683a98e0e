-- What the protocol decides of an event in range.
-- ---- below the line: words of contracts inside and of proofs; nobody has to believe them
pub mod Answered
pub mod Opened
