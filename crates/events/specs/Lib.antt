pub mod Events
pub mod Allowances
pub mod Undecided
pub mod Counts
