pub mod Replies
pub mod Scanning
