pub mod ZoneReport
