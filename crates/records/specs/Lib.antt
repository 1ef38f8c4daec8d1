-- What the records, the outcomes and the counts of the code mean.
pub mod Records
pub mod Outcomes
