pub mod Difs
pub mod Links
pub mod Walks
pub mod Parts
pub mod Nets
pub mod Counts
pub mod Numbers
pub mod Kept
