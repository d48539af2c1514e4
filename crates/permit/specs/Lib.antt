pub mod Permission
pub mod Orders
pub mod History
pub mod Masks
pub mod Start
