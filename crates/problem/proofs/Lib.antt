pub mod Lowest
pub mod Starts
pub mod Places
pub mod Plans
pub mod Replies
pub mod Methods
