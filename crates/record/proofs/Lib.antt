-- Lengths; what the bytes say after they were written; lawful values as facts; bytes that are well formed; what a letter says.
pub mod Lengths
pub mod RecordBytes
pub mod Ranges
pub mod RecordFormed
pub mod Meaning
