-- The laws of an event's bytes.
pub mod Keys
pub mod Ranges
pub mod Meaning
