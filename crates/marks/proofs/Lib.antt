pub mod Stores
pub mod Lowering
