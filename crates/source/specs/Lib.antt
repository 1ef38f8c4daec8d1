-- What the code has: a source, and what a sheet and its calendar say.
pub mod Sources
