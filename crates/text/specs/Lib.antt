-- What the functions of text say beyond the model's definitions: text in pieces, and the text written.
pub mod Pieces
pub mod Decimals
pub mod SinkLaws
pub mod Counting
pub mod Writing
