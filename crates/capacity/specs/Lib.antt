pub mod Reads
pub mod Accepted
pub mod Demand
pub mod ReadBack
