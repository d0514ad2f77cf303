pub mod Claims
pub mod Model
pub mod Replies
pub mod Rules
