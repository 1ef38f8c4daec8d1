-- The papers' reading of the definitions.
-- ---- the bytes of a sheet: reading steps, what an accepted sheet says, and the layout
pub mod Reading
pub mod Turns
pub mod Names
pub mod Pairs
pub mod Places
pub mod Accepted
pub mod Layout
pub mod Fitting
pub mod PairCases
pub mod Following
-- ---- what the calls return, for any bytes and any source
pub mod Returned
pub mod Source
pub mod Check
pub mod Calls
pub mod ListCall
pub mod QueryCall
-- ---- the rules of a sheet: negations and reducts
pub mod Negations
pub mod Subjects
pub mod Reduct
pub mod ModalReduct
-- ---- any setting: stable sets, verdicts, ruling out
pub mod Stable
pub mod Verdict
pub mod Closure
pub mod Contradicted
-- ---- any setting: world views, the order, the listing, the query
pub mod WorldView
pub mod Order
pub mod Tally
pub mod Walk
pub mod Tests
pub mod Listing
pub mod Records
pub mod Query
-- ---- the digits of a number
pub mod Decimal
-- ---- document 02
pub mod InForce
pub mod CalendarCases
pub mod CalendarExact
pub mod CalendarLayout
pub mod Changes
pub mod CalendarCalls
pub mod CalendarPlaces
pub mod Ends
pub mod Constraints
pub mod Day
pub mod DaySource
pub mod DayViews
pub mod Written
pub mod Opposites
pub mod DayRules
pub mod DayCall
pub mod LeastModel
pub mod SingleHeads
-- ---- the rules of a sheet at a set of atoms, for every guess at once
pub mod On
pub mod AtSet
-- ---- T and F of every guess's reduct, by the rules of the sheet
pub mod Literals
