pub mod Outcome
pub mod Reading
pub mod Rows
pub mod Shown
pub mod Sums
pub mod Texts
pub mod Written
