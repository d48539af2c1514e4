pub mod WordLaws
pub mod NumberLaws
