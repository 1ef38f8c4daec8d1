-- What the code holds of the sheets, the refusals that it finds, what it hands out, what its answers mean, and what is demanded of them.
pub mod Held
pub mod Refusals
pub mod Handed
pub mod Answers
pub mod Shares
pub mod Accepted
pub mod Demand
