-- Laws that the functions' proofs cite, one theme a file
pub mod RowLaws
pub mod RowsSay
pub mod SoundRuns
pub mod Histories
pub mod CardsNoted
pub mod RunLaws
pub mod TextLaws
pub mod ReportFew
pub mod ReportCases
pub mod OneOutcome
pub mod ProgramReport
