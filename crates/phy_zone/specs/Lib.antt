pub mod PhyZone
pub mod Inner
