pub mod ZonePermission
