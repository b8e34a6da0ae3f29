pub mod Finished
pub mod Numbered
