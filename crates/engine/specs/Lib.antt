-- What the calls promise: what their answers mean, and the demands; and what the code has on the way.
pub mod Answers
pub mod Demand1
pub mod Demand2
pub mod Demand3
pub mod Queries
pub mod Hours
pub mod Days
pub mod Opposites
pub mod Sources
