-- The papers' reading of the definitions: the theorems.
-- ---- the bytes of a sheet: reading steps, what an accepted sheet says, and the layout
pub mod Fields
pub mod Pairs
pub mod Places
pub mod Accepted
pub mod Layout
pub mod Bytes
pub mod Fitting
pub mod Exact
pub mod PairExact
pub mod Following
-- ---- what the calls return, for any bytes and any source
pub mod Source
pub mod Check
pub mod Calls
pub mod ListCall
pub mod Desk
pub mod QueryCall
-- ---- the rules of a sheet: negations and reducts
pub mod Negations
pub mod ModalReduct
-- ---- any setting: stable sets, verdicts, ruling out
pub mod Stable
pub mod Verdict
pub mod Closure
pub mod Apart
pub mod Contradicted
-- ---- any setting: world views, the order, the listing, the query
pub mod WorldView
pub mod Order
pub mod Tally
pub mod Walk
pub mod Tests
pub mod Listing
pub mod Records
pub mod Query
-- ---- document 02
pub mod InForce
pub mod CalendarExact
pub mod CalendarLayout
pub mod Minute
pub mod Changes
pub mod CalendarCalls
pub mod Ends
pub mod Pass
pub mod Constraints
pub mod Day
pub mod DaySource
pub mod DayViews
pub mod Written
pub mod Opposites
pub mod DayRules
pub mod TwoSections
pub mod FirstBytes
pub mod DayCall
pub mod LeastModel
pub mod SingleHeads
-- ---- the rules of a sheet at a set of atoms, for every guess at once
pub mod On
pub mod AtSet
pub mod Candidates
pub mod Need
-- ---- T and F of every guess's reduct, by the rules of the sheet
pub mod Literals
