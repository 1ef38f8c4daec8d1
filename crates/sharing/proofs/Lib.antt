-- What the proofs cite: sheets that are read, a turn of a sheet, a round, the run, what holds between its rounds, what is handed out at its end, and the whole call.
pub mod Reading
pub mod Turned
pub mod Rounded
pub mod Served
pub mod Between
pub mod Handing
pub mod Called
