use Rattle.std.proofs.Common.{◌≡◌, length, map}
use Rattle.std.specs.List.{All}
use Rattle.sha_lanes.specs.UnderWay.{IsFoundBut, IsLaneOf, places_of}
use Rattle.sha_lanes.proofs.finish_all.Given as goal

abbrev pub invariant-lanes : goal.invariant-lanes
invariant-lanes l = (length l.found ≡ length l.texts) × (length l.lanes ≡ 4) × All (IsLaneOf (map (λ text. text.now) l.texts)) l.lanes
    × IsFoundBut (map (λ text. text.now) l.texts) l.found (places_of l.lanes) l.lane (length l.texts)
