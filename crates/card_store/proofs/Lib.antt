-- Laws about the exports, one theme a file
pub mod Labels
pub mod OneOutcome
