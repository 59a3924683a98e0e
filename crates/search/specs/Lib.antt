-- What is newest at a node, key by key; what the search gives, and what fits a page.
pub mod Kept
-- ---- below the line: words of contracts inside and of proofs; nobody has to believe them
pub mod Found
