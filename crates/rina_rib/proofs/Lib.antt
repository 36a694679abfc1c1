mod Ancestors
pub mod Changes
pub mod Growth
pub mod Lookups
mod Numbers
mod Order
mod Parents
mod Seen
mod Under
pub mod User
