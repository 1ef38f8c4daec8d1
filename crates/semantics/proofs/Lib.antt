-- Theorems: the papers' reading of the definitions. Examples: known sheets, computed.
pub mod Theorems
pub mod Examples
