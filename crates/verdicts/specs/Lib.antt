-- The verdicts on all guesses, as the code has them: planes, and a table with an entry for each guess.
pub mod Tables
