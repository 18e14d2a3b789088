pub mod PickFacts
pub mod AncestorFacts
mod ClosedParts
mod ValidParts
mod EachFacts
mod EndFacts
mod KeyFacts
mod GoodFacts
mod CleanFacts
mod FoundFacts
mod HitFacts
mod ReadyFacts
mod StepFacts
mod FileFacts
mod RunFacts
mod LogFacts
