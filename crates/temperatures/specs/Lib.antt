pub mod Temperature
