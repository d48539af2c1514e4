pub mod LineLaws
pub mod NumeralLaws
pub mod ReadBack
