pub mod PermissionLaws
