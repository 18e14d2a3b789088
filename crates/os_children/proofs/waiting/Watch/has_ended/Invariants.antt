use Rattle.std.proofs.Common.{◌≡◌, map}
use Rattle.os_children.proofs.waiting.Watch.has_ended.Given as goal

abbrev pub invariant-loop : goal.invariant-loop
invariant-loop g l = map (λ r. r.command) l.running ≡ map (λ r. r.command) l.initial.running
