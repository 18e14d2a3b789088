use Rattle.std.proofs.Common.{◌≡◌, map}
use Rattle.os_children.proofs.waiting.look_at.Given as goal

abbrev pub invariant-loop-place : goal.invariant-loop-place
invariant-loop-place g l = map (λ r. r.command) l.running ≡ map (λ r. r.command) l.initial.running
