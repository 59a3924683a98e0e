-- Where the parts stand, and what each shows after a change of another; the whole: bytes stay bytes, `decode` and the kept places follow each change, and a fresh table
-- says a setup. Then what the
-- code's proofs use: what is lent, what a change leaves as it was, a message in a site's channels.
pub mod Parts
pub mod Changes
pub mod Bytes
pub mod KeptPlaces
pub mod Decode
pub mod Follows
pub mod Fresh
pub mod Lent
pub mod Beside
pub mod Sent
