-- Numbers as finite sets, lists of them, and tests that decide what they are named after.
pub mod Decides
pub mod Lists
pub mod Pairwise
pub mod Counting
pub mod Sets
pub mod Members
pub mod Size
pub mod One
pub mod Parts
pub mod Least
pub mod Walks
