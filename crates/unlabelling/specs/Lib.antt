pub mod Unlabels
pub mod Jumps
