use Rattle.std.proofs.Common.{◌≡◌, ◌++◌}
use Rattle.std.specs.Vec.Iter.{into_iter_items}
use Rattle.ignore_rules.proofs.stack.joined.Given as goal

-- the rules so far, before those that are left
abbrev pub invariant-loop-rule : goal.invariant-loop-rule
invariant-loop-rule l = l.fn.before.items ++ l.fn.more.items ≡ l.all.items ++ into_iter_items l.rule-iterator
