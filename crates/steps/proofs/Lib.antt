-- What a step on a well-formed table gives, by the tests of its code; what is known of an event's fields by its code; what carrying a decision out asks;
-- that pieces keep a table sound.
pub mod Stepped
pub mod Fields
pub mod Carried
pub mod Kept
