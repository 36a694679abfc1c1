pub mod Allocation
pub mod Counterexamples
pub mod Holding
pub mod Laws
pub mod Machines
