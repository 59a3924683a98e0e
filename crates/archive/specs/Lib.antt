-- What the public functions give, for every input; and what is promised of every list of events, over tables and event bytes.
pub mod Call
pub mod Run
pub mod Port
pub mod Story
pub mod Promises
pub mod Influence
