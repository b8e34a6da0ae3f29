pub mod Memory
pub mod Prepared
