pub mod Touching
pub mod Rising
pub mod Scanning
pub mod Standing
pub mod Still
