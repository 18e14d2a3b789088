-- How often a turn's store may be read to look up a key among the pairs that a run sees, and then
-- what was found.
use Rattle.std.specs.Prelude.{ℕ, List}
use Rattle.record_log.specs.Kinds.{Entry}
use Rattle.pair_reader.specs.declared.wanted.Lengths.{Lengths}
use Rattle.pair_reader.specs.declared.wanted.Lengths.TheVariants.{All}
use Rattle.pair_index.specs.declared.seen.SeenPairs.{SeenPairs}
use Rattle.pair_index.specs.Costs.{cost_seen}

-- keys of any length are foreseen
abbrev pub any_length : Lengths
any_length = All

abbrev pub cost_among : SeenPairs → List Entry → List ℕ → ℕ
cost_among seen frames key = cost_seen seen any_length frames key
