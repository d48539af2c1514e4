pub mod ZonefileLaws
