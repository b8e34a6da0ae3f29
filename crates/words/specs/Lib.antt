pub mod Places
pub mod Layout
pub mod Links
pub mod Sets
