pub mod Underway
pub mod Cut
