pub mod Enrolled
pub mod Sample
