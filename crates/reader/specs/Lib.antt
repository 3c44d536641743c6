-- What is written for a job, and by the program `depot`.
pub mod Depot
