pub mod Fields
pub mod Lifetimes
pub mod Pdus
pub mod Written
