pub mod Lowest
pub mod Tables
pub mod Rising
pub mod Sane
pub mod Plans
pub mod Methods
pub mod Replies
