-- What the proofs cite, and those of the calls: what was read, checks of it, a sheet under the day's masks, a sheet with its calendar.
pub mod Read
pub mod Checks
pub mod Opened
pub mod Calendars
