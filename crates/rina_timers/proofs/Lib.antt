pub mod Linking
pub mod Slots
pub mod Written
pub mod Walking
pub mod Placing
