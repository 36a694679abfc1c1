pub mod Answering
pub mod Closing
pub mod Machines
pub mod Making
pub mod Messages
pub mod Owning
pub mod Requests
pub mod Rows
