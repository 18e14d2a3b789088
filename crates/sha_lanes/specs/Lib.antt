pub mod Lanes
pub mod UnderWay
