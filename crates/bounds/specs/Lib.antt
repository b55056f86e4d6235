pub mod Reaching
pub mod Room
