-- What the calls give by their tests; that nothing else meets their promises; the theorems carried to the bytes; the stand-ins that do not meet the promise; and what may influence a step: the
-- same writes to two tables, by numbers and parts and by each change.
pub mod Calls
pub mod Unique
pub mod Still
pub mod Story
pub mod Waits
pub mod StandIns
pub mod Writes
pub mod Changes
pub mod Influence
