pub mod BitOps
pub mod Laws
pub mod HistoryLaws
pub mod BatchLaws
pub mod StartLaws
pub mod ReachLaws
