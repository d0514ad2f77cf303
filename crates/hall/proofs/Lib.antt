pub mod Bridges
pub mod Claimed
pub mod Entries
pub mod Lasts
pub mod Maps
