pub mod Waiting
pub mod Histories
