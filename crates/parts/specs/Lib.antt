-- A node's, a channel's and a session's bytes: what they say, and each change; room for a message; the keys and marks of a page and
-- the session that the code holds, and when one fits its bytes.
pub mod Node
pub mod Channel
pub mod Session
-- ---- below the line: words of contracts inside and of proofs; nobody has to believe them
pub mod Room
pub mod Pages
pub mod Meaning
pub mod Fits
