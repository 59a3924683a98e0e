-- The laws of each, and of tests and choices.
pub mod Tests
pub mod Below
pub mod InRange
pub mod Tabulate
pub mod Le
pub mod Level
pub mod Part
pub mod Fields
