-- What the proof cites: the constant list passes the test.
mod Ordered
