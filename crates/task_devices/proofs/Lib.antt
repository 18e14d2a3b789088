mod FileFacts
pub mod KeepFacts
