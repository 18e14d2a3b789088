use Rattle.std.proofs.Common.{◌≡◌, ◌++◌, ℕ, List, map, take}
use Rattle.pruned_files.proofs.cut.add_locations.Given as goal

-- those so far
abbrev pub invariant-loop-pair : goal.invariant-loop-pair
invariant-loop-pair l = l.keep ≡ l.fn.keep ++ map (λ (pair : List ℕ × List ℕ). pair.0) (take l.pair-index l.pair-items)
