pub mod Results
pub mod Requests
