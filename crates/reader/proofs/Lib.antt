-- Laws that the functions' proofs cite, one theme a file
pub mod Opening
pub mod Closing
pub mod Wholes
pub mod DepotLaws
pub mod OneOutcome
