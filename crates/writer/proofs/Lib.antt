pub mod Replies
pub mod Puts
pub mod Contents
pub mod Pairs
pub mod Answers
