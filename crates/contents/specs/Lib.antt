pub mod Contents
pub mod Given
pub mod Layout
pub mod Trick
