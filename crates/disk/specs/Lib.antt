-- The bytes of a file and the words of a store; what `desk` makes of a file: a job, a fresh one, what it holds, a report; saved answers; names; a file from day
-- to day.
pub mod Bytes
pub mod Desk
pub mod Check
pub mod Report
pub mod Last
pub mod Names
pub mod Days
