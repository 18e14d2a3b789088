use Rattle.std.proofs.Common.{◌≡◌, ◌++◌, length}
use Rattle.spawn_dev.specs.Books.{joined}
use Rattle.spawn_dev.proofs.evaluate.push_joined.Given as goal

abbrev pub invariant-loop-first : goal.invariant-loop-first
invariant-loop-first l = l.to.items ++ joined l.rest ≡ l.initial.to.items ++ joined l.texts

abbrev pub decreases-loop-first : goal.decreases-loop-first
decreases-loop-first l = length l.rest
