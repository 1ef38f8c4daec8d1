-- The constant list of the guesses: a test that decides whether a list is the order, and the list, which passes it.
pub mod Test
pub mod Table
pub mod Ordered
