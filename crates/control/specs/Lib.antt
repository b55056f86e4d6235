pub mod Clock
pub mod Control
