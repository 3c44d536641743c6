-- Document 01 as definitions that compute, in its order: serials and faults, the store, the words it stands in, what their soundness means, the calls,
-- the plain list of cards, sequences of calls, text, the job, and what its answers tell.
pub mod Lists
pub mod Serial
pub mod Shape
pub mod Model
pub mod Layout
pub mod Meaning
pub mod Words
pub mod Numbers
pub mod Calls
pub mod Plain
pub mod Runs
pub mod Text
pub mod Job
pub mod Deeds
pub mod Heard
-- document 02: faults by code, and what a report tells; and the soundness of document 01's store, which is format 1 now, in its own numbers
pub mod Report
pub mod ReportSays
pub mod FormatOne
-- of neither: bounds over all formats, for laws and inner contracts
pub mod Bounds
