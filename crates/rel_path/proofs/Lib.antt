pub mod Parts
pub mod PathLaws
