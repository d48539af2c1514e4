pub mod Refusals
pub mod Outcome
pub mod Numbers
pub mod Phys
pub mod Routes
pub mod Arrival
pub mod Ports
