pub mod Export
pub mod Fields
