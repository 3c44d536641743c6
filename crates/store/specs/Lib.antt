pub mod Numbers
pub mod Leaves
pub mod Plans
pub mod Sequences
pub mod Search
pub mod Order
pub mod Listing
