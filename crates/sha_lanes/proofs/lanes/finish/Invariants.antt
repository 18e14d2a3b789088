use Rattle.std.proofs.Common.{◌≡◌, map, slice_index}
use Rattle.std.specs.List.{All}
use Rattle.sha_lanes.specs.UnderWay.{IsLaneOf, lefts_of, places_of}
use Rattle.sha_lanes.proofs.lanes.finish.Given as goal

abbrev pub invariant-rounds : goal.invariant-rounds
invariant-rounds l = All (IsLaneOf (map (λ text. text.now) l.texts)) l.lanes × (places_of l.lanes ≡ places_of l.initial.lanes)

abbrev pub decreases-rounds : goal.decreases-rounds
decreases-rounds l = slice_index (lefts_of l.lanes) l.lane
