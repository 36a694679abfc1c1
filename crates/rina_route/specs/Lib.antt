pub mod Keys
pub mod Nodes
pub mod Routes
pub mod Weights
pub mod Written
