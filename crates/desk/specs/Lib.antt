-- What the desk call promises.
pub mod Demand3
pub mod Days
