-- What the contracts of `text` cite.
pub mod Appended
pub mod Names
pub mod Lines
