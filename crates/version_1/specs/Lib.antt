pub mod Version1
