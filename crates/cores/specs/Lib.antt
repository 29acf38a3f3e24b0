pub mod Sets
pub mod Placement
pub mod Best
pub mod Cores
pub mod Fault
pub mod Examples
pub mod Turns
