mod Edges
mod Follow
mod Reached
mod Settle
mod Sorted
