pub mod Adaptation
pub mod Extension
