pub mod Causes
pub mod Reader
pub mod NextLine
