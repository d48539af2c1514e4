pub mod DiscoverLaws
pub mod AlikeLaws
