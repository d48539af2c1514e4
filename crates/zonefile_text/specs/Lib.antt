pub mod ZonefileText
