pub mod Downed
pub mod Finding
pub mod Leaves
pub mod Plain
