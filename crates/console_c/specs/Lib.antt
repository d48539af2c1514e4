pub mod ConsoleC
