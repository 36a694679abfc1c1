pub mod Agenda
pub mod Counts
pub mod Enrolled
pub mod Enrolments
pub mod Firsts
pub mod Items
pub mod Neighbours
pub mod Rows
