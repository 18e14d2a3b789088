use Rattle.std.proofs.Common.{◌≡◌, ◌++◌, map, drop}
use Rattle.run_laws.specs.Ancestors.{part_at}
use Rattle.run_laws.specs.Closures.{renumbered}
use Rattle.closures.specs.Places.{has}
use Rattle.closures.proofs.renumbering.parts_of.Given as goal

abbrev pub invariant-loop-place : goal.invariant-loop-place
invariant-loop-place l = l.parts.items ++ map (λ k. renumbered (has l.kept) (part_at l.listing k)) (drop l.place-index l.kept) ≡ map (λ k. renumbered (has l.kept) (part_at l.listing k)) l.kept
