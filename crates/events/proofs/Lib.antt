pub mod Counting
pub mod Cutting
pub mod Laws
pub mod Leading
