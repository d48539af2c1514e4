pub mod SheetsC
pub mod Promises
