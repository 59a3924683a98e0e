-- The rules of docs/RULES.md without bytes, in the order in which they are best read; R1, R2, .. in comments are their numbers. First the model, from values to
-- runs; then the past and what is promised.
pub mod Record
pub mod Times
pub mod Shelf
pub mod State
pub mod Event
pub mod View
pub mod Needs
pub mod Change
pub mod Serve
pub mod Step
-- ---- the past and the promises
pub mod Past
pub mod Causal
pub mod Count
pub mod Promises
pub mod Waits
-- ---- below the line: words of contracts inside and of proofs; nobody has to believe them
pub mod Marked
pub mod Search
pub mod Meaning
pub mod Reason
