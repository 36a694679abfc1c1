pub mod Journeys
pub mod Ways
pub mod Words
