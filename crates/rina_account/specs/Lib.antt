pub mod Account
pub mod Causes
