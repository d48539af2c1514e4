pub mod BitLaws
pub mod Loops
pub mod Copies
pub mod Addresses
pub mod Sets
pub mod GroupLaws
pub mod RunLaws
