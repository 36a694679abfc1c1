mod Hops
mod Keys
mod Least
pub mod Lists
mod Numbers
mod Rows
mod Texts
mod Walks
mod Weights
pub mod Written
