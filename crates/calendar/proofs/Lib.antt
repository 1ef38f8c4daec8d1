-- What the proofs cite: entries as they are written and read, the rules in force, and the minutes between two at which an entry begins or ends.
pub mod Written
pub mod Calendars
pub mod Gathered
pub mod Between
