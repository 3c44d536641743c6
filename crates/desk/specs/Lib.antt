-- How many bytes were read.
pub mod Counts
