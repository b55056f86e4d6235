pub mod Head
pub mod Stream
