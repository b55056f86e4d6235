pub mod Reached
pub mod Theorems
