pub mod Links
pub mod Trials
