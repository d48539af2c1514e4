pub mod ZoneLaws
