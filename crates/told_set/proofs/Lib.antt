pub mod ToldLaws
pub mod Chains
