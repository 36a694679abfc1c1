pub mod Pairing
pub mod Standings
pub mod Texts
pub mod There
pub mod Told
