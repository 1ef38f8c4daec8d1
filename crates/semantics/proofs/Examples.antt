-- Known sheets, computed: what is computed in one go.
pub mod Longest
pub mod Changed
pub mod Computed
