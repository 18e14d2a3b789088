pub mod BoardFacts
pub mod TurnFacts
pub mod StoryFacts
pub mod PageFacts
pub mod AheadFacts
