use Rattle.std.proofs.Common.{◌≡◌, ◌+◌, ◌*◌, take, length}
use Rattle.workspaces.specs.Reach.{leads_in}
use Rattle.workspaces.specs.Marks.{unmarked}
use Rattle.workspaces.proofs.Marking.{Reaching}
use Rattle.workspaces.proofs.reach.reached.Given as goal

abbrev pub invariant-loop-place : goal.invariant-loop-place
invariant-loop-place l = record {
  same : length l.front.reached.items ≡ length l.edges;
  reaching : Reaching (leads_in l.edges) l.from (take l.place-index l.from) l.front.reached.items l.front.waiting.items;
}

abbrev pub invariant-loop-place-2 : goal.invariant-loop-place-2
invariant-loop-place-2 l = record {
  same : length l.front.reached.items ≡ length l.edges;
  reaching : Reaching (leads_in l.edges) l.from l.from l.front.reached.items l.front.waiting.items;
}

abbrev pub decreases-loop-place-2 : goal.decreases-loop-place-2
decreases-loop-place-2 l = length l.front.waiting.items + 2 * unmarked l.front.reached.items
