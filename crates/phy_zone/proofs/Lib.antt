pub mod PhyZoneLaws
