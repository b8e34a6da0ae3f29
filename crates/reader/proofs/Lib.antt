pub mod Replies
pub mod Reader
