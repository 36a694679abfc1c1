pub mod Laws
pub mod Names
pub mod Objects
pub mod Rows
pub mod Things
pub mod Walks
