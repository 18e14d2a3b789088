use Rattle.std.proofs.Common.{◌≡◌, ◌-◌, ◌==◌, ◌||◌, drop}
use Rattle.std.specs.List.{list_any}
use Rattle.run_laws.specs.Ancestors.{part_at, reaches}
use Rattle.run_laws_tests.proofs.program.+reaches.Given as goal

abbrev pub decreases-reaches : goal.decreases-reaches
decreases-reaches l = l.most

abbrev pub invariant-loop-dep : goal.invariant-loop-dep
invariant-loop-dep l = list_any (λ d. (d == l.to) || reaches l.listing (l.most - 1) d l.to) (part_at l.listing l.from).deps ≡ list_any (λ d. (d == l.to) || reaches l.listing (l.most - 1) d l.to) (drop l.dep-index l.dep-items)
