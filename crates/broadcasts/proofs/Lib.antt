pub mod BroadcastLaws
pub mod Unique
