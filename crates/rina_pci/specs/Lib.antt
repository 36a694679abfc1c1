pub mod Life
pub mod Reading
pub mod Spelling
pub mod Writing
