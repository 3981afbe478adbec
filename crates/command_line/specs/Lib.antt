pub mod Apps
pub mod Lines
pub mod Plain
