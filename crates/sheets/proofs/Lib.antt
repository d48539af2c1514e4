pub mod Taken
pub mod SameOrder
pub mod Longest
pub mod Listed
pub mod RoundTrip
pub mod Worked
