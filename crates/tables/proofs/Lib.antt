pub mod AnswerLaws
pub mod RefusalLaws
pub mod OutcomeLaws
pub mod PhyLaws
pub mod ArrivalLaws
pub mod PortLaws
pub mod RouteLaws
