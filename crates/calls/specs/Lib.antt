-- Where the sheets of a companion may stand.
pub mod Within
