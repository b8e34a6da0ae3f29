pub mod Words
pub mod Openings
pub mod Losses
pub mod Live
pub mod Filled
pub mod Blamed
