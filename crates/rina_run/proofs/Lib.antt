pub mod InputLines
pub mod Texts
pub mod ReadOn
pub mod Pieces
mod Playing
pub mod Ending
pub mod Faulty
pub mod Checks
pub mod Shows
pub mod Promised
pub mod Opens
pub mod Drawing
