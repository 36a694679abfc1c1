pub mod Looking
pub mod Pairs
pub mod Promises
