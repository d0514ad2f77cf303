pub mod FirstWords
pub mod Numbers
