-- Laws that the functions' proofs cite, one theme a file
pub mod Padded
pub mod Forms
pub mod AnswerLaws
pub mod Counting
pub mod OneLine
pub mod Going
pub mod Asking
pub mod Planning
pub mod Turning
pub mod JobCases
pub mod OneOutcome
pub mod ProgramDemands
