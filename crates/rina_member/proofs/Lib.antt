mod ByRows
mod Changing
pub mod Counting
pub mod Enrolled
mod EntryForms
pub mod Entering
pub mod Handled
mod Holding
mod Hops
pub mod Items
mod Keeping
pub mod Knowing
pub mod Laying
mod Leading
pub mod Learning
pub mod Lists
pub mod Losing
mod Names
mod Others
pub mod Planned
mod Removing
mod Shortness
pub mod Starting
mod States
pub mod Tells
pub mod TellsEnrolled
pub mod TellsMore
pub mod TellsStarting
pub mod Telling
pub mod TextsApart
