pub mod LinesLent
pub mod RowsLaw
pub mod Shows
pub mod Writing
