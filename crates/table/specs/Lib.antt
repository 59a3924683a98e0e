-- Where each part stands, what the whole table says, each change in bytes; when a site's channels have room, when a change fits, and one kept place set.
pub mod Parts
pub mod Decode
pub mod Put
-- ---- below the line: words of contracts inside and of proofs; nobody has to believe them
pub mod Free
pub mod Fits
pub mod Noted
