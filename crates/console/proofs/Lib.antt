pub mod Rows
pub mod Orders
pub mod Zones
pub mod Reports
pub mod Asked
pub mod Heads
pub mod Promised
