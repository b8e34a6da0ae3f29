pub mod Backwards
pub mod Jumping
