pub mod Unit
pub mod Packets
pub mod Writer
pub mod Row
