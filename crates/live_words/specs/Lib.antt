pub mod Slots
pub mod Lives
pub mod Kept
