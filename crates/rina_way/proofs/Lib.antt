pub mod Travelling
pub mod Walks
