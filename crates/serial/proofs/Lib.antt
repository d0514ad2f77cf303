pub mod Lists
pub mod Sorting
pub mod Unique
pub mod Replaying
pub mod Theorems
mod Account
