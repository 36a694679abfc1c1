pub mod Count
pub mod Heads
pub mod Slots
