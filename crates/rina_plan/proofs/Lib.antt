pub mod Known
pub mod Places
pub mod Merging
pub mod Walking
pub mod Counting
pub mod Carried
pub mod Kept
