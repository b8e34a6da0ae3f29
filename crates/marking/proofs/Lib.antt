pub mod Indices
pub mod Trials
pub mod Visits
