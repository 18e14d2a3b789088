mod CostFacts
mod LastFacts
mod PageFacts
