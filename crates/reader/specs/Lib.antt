-- The pieces of event bytes.
pub mod Pieces
