pub mod HeatFlow
