-- What the numbers of a script, its checksums and its lines are.
pub mod Numbers
pub mod Lines
pub mod Calls
