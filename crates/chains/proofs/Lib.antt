pub mod Ahead
pub mod Chain
