pub mod Coming
pub mod Gap
pub mod Journals
pub mod Laws
pub mod Members
pub mod Network
pub mod Sample
pub mod Static
