pub mod Belongs
pub mod Gather
pub mod Row
