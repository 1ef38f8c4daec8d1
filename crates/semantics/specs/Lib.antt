-- What documents 01 and 02 mean. Definitions: what a reader must believe, in the documents' order. Theorems: the papers' reading of them.
-- Walk: the listing as it is run; Fields: where a reader finds the fields of a sheet; Words: programs in words; AtSet: the rules at a set
-- of atoms. The definitions do not rest on these four.
-- Examples: sheets with known lists, computed.
pub mod Definitions
pub mod Walk
pub mod Fields
pub mod Words
pub mod AtSet
pub mod Theorems
pub mod Examples
