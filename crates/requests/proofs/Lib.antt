pub mod ResultLaws
pub mod RequestLaws
