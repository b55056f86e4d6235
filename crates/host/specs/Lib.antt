pub mod Reports
pub mod Stamps
pub mod Clocks
pub mod Packets
