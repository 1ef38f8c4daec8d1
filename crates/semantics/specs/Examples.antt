-- Sheets whose lists are known, limit cases of the reading, the table of the reduct, verdicts and belief sets of guesses, what the listing, the
-- desk call and the query return, what `views` prints, calendars, what one pass gathers, the answers under the day's masks, least models,
-- sheets with pairs of opposites, sheets on one allowance, and the rules at sets of atoms, computed.
pub mod Sheets
pub mod Own
pub mod Limits
pub mod Reducts
pub mod Guesses
pub mod Listings
pub mod Queries
pub mod Texts
pub mod Calendars
pub mod Minutes
pub mod Changed
pub mod Passes
pub mod Days
pub mod LeastModels
pub mod Opposites
pub mod Sharing
pub mod AtSet
pub mod Computed
