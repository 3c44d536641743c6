-- What the rules say: the serial code, the table, and document 01's marked examples.
pub mod Code
pub mod Table
pub mod Examples
