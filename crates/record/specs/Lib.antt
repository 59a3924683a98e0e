-- A record's and a message's bytes; the range of each field, and when the bytes are well formed; the values that the code holds, and when a value fits its bytes.
pub mod RecordBytes
pub mod Ranges
pub mod RecordFormed
-- ---- below the line: words of contracts inside and of proofs; nobody has to believe them
pub mod Meaning
pub mod Fits
