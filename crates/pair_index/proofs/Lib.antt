pub mod KeyLaws
pub mod Places
pub mod IndexLaws
pub mod BatchLaws
pub mod Rising
