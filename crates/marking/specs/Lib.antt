pub mod Looks
pub mod Visits
