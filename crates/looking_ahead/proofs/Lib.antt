pub mod Trials
pub mod Ahead
