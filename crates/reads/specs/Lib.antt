pub mod Cells
pub mod Front
pub mod Chains
