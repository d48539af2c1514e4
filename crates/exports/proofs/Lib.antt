pub mod ExportLaws
pub mod Unique
