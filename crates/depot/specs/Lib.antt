-- What a read brings.
pub mod Reading
