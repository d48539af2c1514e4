pub mod Smp
