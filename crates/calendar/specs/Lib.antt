-- A calendar as the code holds it, and what the answers of the code mean.
pub mod Entries
pub mod Steps
pub mod Force
pub mod Next
