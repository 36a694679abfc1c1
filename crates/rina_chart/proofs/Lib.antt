pub mod Drawn
pub mod EachRow
pub mod EscapesLaw
pub mod Happening
pub mod Laying
pub mod Shaping
pub mod Writing
