pub mod Refusing
pub mod Accepting
pub mod Theorems
pub mod Wrong
