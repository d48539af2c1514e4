pub mod SheetsCLaws
pub mod Unique
