pub mod FilesC
