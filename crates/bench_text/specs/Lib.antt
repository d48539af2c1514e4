pub mod Stream
pub mod Run
pub mod Turns
pub mod Cases
