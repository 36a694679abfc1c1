pub mod Kinds
pub mod Resting
pub mod Step
pub mod Wanting
