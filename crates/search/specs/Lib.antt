-- The search for a smaller model in many lanes at once, the support of a set, and the words that share one computation.
pub mod Smaller
pub mod Search
pub mod Supported
pub mod Stable
pub mod Shared
pub mod Tried
pub mod Step
