-- Lawful values; the facts of a well-formed table; what a step changes is lawful and fits the table; bytes that stay well formed, from nodes up to the table; a fresh table; all of it
-- together, step by step; and for the check's own code page keys.
pub mod LawfulValues
pub mod Facts
pub mod Bests
pub mod Served
pub mod Fits
pub mod NodeFormed
pub mod ChannelFormed
pub mod SessionFormed
pub mod Keeps
pub mod Fresh
pub mod Steps
pub mod KeyTests
