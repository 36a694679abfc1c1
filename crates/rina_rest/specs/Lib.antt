pub mod Counterexamples
pub mod Drawn
pub mod Flows
pub mod Laws
pub mod Ledger
pub mod Naming
pub mod Still
pub mod While
