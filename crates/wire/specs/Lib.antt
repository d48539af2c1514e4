pub mod Bits
pub mod Groups
pub mod Address
pub mod PhySet
pub mod Runs
