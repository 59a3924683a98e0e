-- One more record as the code compares it; how the kept places follow a node's records.
pub mod Compared
pub mod Kept
