pub mod Election
