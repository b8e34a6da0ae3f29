pub mod Questions
pub mod Replies
