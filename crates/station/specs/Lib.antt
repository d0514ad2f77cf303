pub mod Meaning
pub mod Pair
pub mod Renumbering
pub mod Paired
pub mod Part
pub mod Renumbered
