pub mod Input
pub mod Several
pub mod Text
