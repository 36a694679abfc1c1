pub mod Binding
pub mod Runs
pub mod Guesses
pub mod Proper
pub mod Telling
