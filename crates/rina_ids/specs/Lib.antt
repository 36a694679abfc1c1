pub mod Ids
pub mod Members
