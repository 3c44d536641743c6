-- What the report's inner functions answer: the rows of the codes, the text that they give, and the contract of the report.
pub mod Rows
pub mod Runs
pub mod Reports
pub mod Texts
pub mod Stories
