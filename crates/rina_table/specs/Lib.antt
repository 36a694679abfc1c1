pub mod Faults
pub mod Keys
pub mod Values
pub mod Names
pub mod Fields
pub mod Rows
pub mod Items
pub mod Groups
