pub mod Faults
pub mod Messages
pub mod Plain
pub mod Reading
pub mod Writing
pub mod Numbers
