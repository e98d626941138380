pub mod Gyro
pub mod Propellor
pub mod Whirl
pub mod Quinto
pub mod Chamfer
pub mod Kis
