pub mod Looking
pub mod Ends
pub mod Visiting
