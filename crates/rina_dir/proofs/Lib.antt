pub mod Apart
mod Keys
mod Stay
mod Written
