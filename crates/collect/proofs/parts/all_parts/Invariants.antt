use Rattle.std.proofs.Common.{take}
use Rattle.collect.specs.Listings.{ArePaired}
use Rattle.collect.specs.Steps.{IsMadeFrom, IsMadeOf, jobs}
use Rattle.collect.proofs.parts.all_parts.Given as goal

-- those of the tasks so far
abbrev pub invariant-loop-place : goal.invariant-loop-place
invariant-loop-place l = ArePaired (IsMadeOf (IsMadeFrom l.source)) (take l.place (jobs l.wanted l.tasks l.rows l.uses)) l.parts
