-- What the test of a set goes over, that it decides stability, and what the answers of the code mean.
pub mod Applied
pub mod Search
pub mod Growth
pub mod Smaller
pub mod SingleHeads
pub mod Examples
pub mod Nogoods
pub mod Kept
pub mod Tested
