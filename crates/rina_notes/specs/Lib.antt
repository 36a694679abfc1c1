pub mod Sites
pub mod Told
pub mod StepTold
pub mod Copying
pub mod Look
