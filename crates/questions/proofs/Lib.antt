pub mod Keeping
pub mod Laws
pub mod Judging
pub mod Shown
pub mod Replies
pub mod Wrong
