pub mod Back
pub mod Linking
pub mod Linked
