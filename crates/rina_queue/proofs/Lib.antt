mod Cubes
mod Emptied
pub mod Places
mod Rises
mod Rooms
pub mod Served
pub mod Shown
