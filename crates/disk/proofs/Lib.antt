-- Laws that the functions' proofs cite, one theme a file
pub mod Bytes
pub mod Filling
pub mod Lengths
pub mod Served
pub mod Making
pub mod Telling
pub mod Slashes
pub mod Keeping
pub mod Summing
pub mod AnswerLines
pub mod DeskLaws
