pub mod Ones
pub mod Sweeping
pub mod Along
pub mod Turns
