-- What the job's functions say beyond the model's definitions: what a line tells, the text of an answer, the tally, one line, the whole.
pub mod Told
pub mod Answers
pub mod Counts
pub mod Turns
pub mod Runs
pub mod Sequences
