pub mod Naming
pub mod Looking
