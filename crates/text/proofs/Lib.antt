-- Laws that the functions' proofs cite, one theme a file
pub mod ListWords
pub mod PieceLaws
pub mod NumberLaws
pub mod DecimalLaws
pub mod Putting
pub mod Sinking
