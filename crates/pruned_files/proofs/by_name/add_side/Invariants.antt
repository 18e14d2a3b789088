use Rattle.std.proofs.Common.{◌≡◌, ◌++◌, take}
use Rattle.pruned_files.specs.Calls.{on_side}
use Rattle.pruned_files.proofs.by_name.add_side.Given as goal

-- those so far
abbrev pub invariant-loop-number : goal.invariant-loop-number
invariant-loop-number l = l.ordered.items ≡ l.fn.ordered.items ++ on_side l.packages l.side (take l.number-index l.numbers)
