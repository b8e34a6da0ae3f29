pub mod Filling
pub mod Sure
pub mod Second
pub mod Loading
