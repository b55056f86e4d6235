pub mod Answer
pub mod Field
pub mod Numbers
pub mod Pack
pub mod Refused
