use Rattle.std.proofs.Common.{◌≡◌, take}
use Rattle.spawn_dev.proofs.book.Book.copy.Given as goal

abbrev pub invariant-loop-rule : goal.invariant-loop-rule
invariant-loop-rule l = l.items.items ≡ take l.rule-index l.rule-items
