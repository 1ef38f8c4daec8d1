-- In the order of document 01; Returned and Check, which needs k, stand after Setting.
pub mod Rules
pub mod Reading
pub mod Sheet
pub mod Guesses
pub mod Reduct
pub mod Setting
pub mod Returned
pub mod Check
pub mod Stable
pub mod Verdict
pub mod Propagation
pub mod Order
pub mod Listing
pub mod Query
pub mod Calls
pub mod Desk
pub mod Program
-- ---- document 02
pub mod Calendar
pub mod Pass
pub mod Day
pub mod LeastModel
pub mod Sharing
