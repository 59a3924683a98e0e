-- Little-endian numbers, signed levels, a part of the bytes, a function's first values, a test of every number below n, a list of tests, whether a number is in a list, a list of fields to put; what is tested of such a list.
pub mod Le
pub mod Level
pub mod Part
pub mod Tabulate
pub mod Below
pub mod Lists
pub mod Tests
pub mod Fields
-- ---- below the line: words of contracts inside and of proofs; nobody has to believe them
pub mod FieldTests
