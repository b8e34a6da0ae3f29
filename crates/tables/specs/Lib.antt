pub mod Tests
pub mod Applies
pub mod Examination
pub mod Framed
pub mod Ways
pub mod Former
pub mod Cases
pub mod Replies
