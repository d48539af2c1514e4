pub mod Writes
pub mod Records
pub mod DescribedLaws
