pub mod Handling
pub mod Knowing
pub mod Managements
pub mod Objects
pub mod Routing
pub mod Short
pub mod Start
